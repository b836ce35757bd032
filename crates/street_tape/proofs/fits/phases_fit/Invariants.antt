use Rattle.std.proofs.Common.{All, take}
use Rattle.street_text.specs.Fits.{PhaseFits}
use Rattle.street_tape.proofs.fits.phases_fit.Given as goal

abbrev pub invariant-loop-spec : goal.invariant-loop-spec
invariant-loop-spec l = All PhaseFits (take l.spec-index l.specs)
