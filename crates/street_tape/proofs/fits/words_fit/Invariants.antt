use Rattle.std.proofs.Common.{All, take}
use Rattle.street_text.specs.Fits.{IsWord}
use Rattle.street_tape.proofs.fits.words_fit.Given as goal

abbrev pub invariant-loop-number : goal.invariant-loop-number
invariant-loop-number l = All IsWord (take l.number-index l.numbers)
