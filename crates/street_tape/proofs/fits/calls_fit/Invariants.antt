use Rattle.std.proofs.Common.{All, take}
use Rattle.street_tape.specs.Entries.{IsOfWords}
use Rattle.street_tape.proofs.fits.calls_fit.Given as goal

abbrev pub invariant-loop-at : goal.invariant-loop-at
invariant-loop-at l = All IsOfWords (take l.at l.journal)
