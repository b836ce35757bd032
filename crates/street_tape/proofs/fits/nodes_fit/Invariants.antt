use Rattle.std.proofs.Common.{All, take}
use Rattle.street_text.specs.Fits.{NodeFits}
use Rattle.street_tape.proofs.fits.nodes_fit.Given as goal

abbrev pub invariant-loop-spec : goal.invariant-loop-spec
invariant-loop-spec l = All NodeFits (take l.spec-index l.specs)
