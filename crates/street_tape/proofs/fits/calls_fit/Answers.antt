use Rattle.std.proofs.Common.{arith, sym}
use Rattle.street_tape.specs.Entries.{IsOfWords}
use Rattle.street_tape.proofs.Each.{one_read, at_end}
use Rattle.street_tape.proofs.fits.calls_fit.Goals as goal

pub loop-at-preserved : goal.loop-at-preserved
loop-at-preserved c = one_read IsOfWords c.args.journal.now c.loop-at.at c.in-Some.entry.now (sym c.in-Some.ensures) c.loop-at.invariant c.call_fits.ensures

pub returns : goal.returns
returns c = at_end IsOfWords c.args.journal.now c.loop-at.at (omega (arith, c.len-at-end.ensures)) c.loop-at.invariant
