use Rattle.std.proofs.Common.{All, take}
use Rattle.street_text.specs.Fits.{GreenFits}
use Rattle.street_tape.proofs.fits.greens_fit.Given as goal

abbrev pub invariant-loop-spec : goal.invariant-loop-spec
invariant-loop-spec l = All GreenFits (take l.spec-index l.specs)
