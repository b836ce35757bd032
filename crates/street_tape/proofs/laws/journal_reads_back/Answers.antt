use Rattle.std.proofs.Common.{None}
use Rattle.street_tape.proofs.Journals.{tape_fits}
use Rattle.street_tape.proofs.Legal.{legal_parts}
use Rattle.street_tape.proofs.laws.journal_reads_back.Goals as goal

pub returns-clause-fits : goal.returns-clause-fits
returns-clause-fits c = λ lines.
    tape_fits c.args.journal.now c.length_fits.ensures c.calls_fit.ensures (legal_parts None c.args.journal.now c.legal.ensures) lines

pub returns-clause-reads : goal.returns-clause-reads
returns-clause-reads c = λ lines.
    c.tape_reads_back.ensures.now c.args.journal.now
    (tape_fits c.args.journal.now c.length_fits.ensures c.calls_fit.ensures (legal_parts None c.args.journal.now c.legal.ensures) lines)
