use Rattle.std.proofs.Common.{All, take}
use Rattle.street_text.specs.Fits.{LinkFits}
use Rattle.street_tape.proofs.fits.links_fit.Given as goal

abbrev pub invariant-loop-spec : goal.invariant-loop-spec
invariant-loop-spec l = All LinkFits (take l.spec-index l.specs)
