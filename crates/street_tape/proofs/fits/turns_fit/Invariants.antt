use Rattle.std.proofs.Common.{All, take}
use Rattle.street_text.specs.Fits.{TurnFits}
use Rattle.street_tape.proofs.fits.turns_fit.Given as goal

abbrev pub invariant-loop-spec : goal.invariant-loop-spec
invariant-loop-spec l = All TurnFits (take l.spec-index l.specs)
