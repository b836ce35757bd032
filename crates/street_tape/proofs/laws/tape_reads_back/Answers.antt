use Rattle.street_tape.proofs.Told.{tape_told, old_tape_told}
use Rattle.street_tape.proofs.laws.tape_reads_back.Goals as goal

pub returns-clause-now : goal.returns-clause-now
returns-clause-now c = tape_told

pub returns-clause-before : goal.returns-clause-before
returns-clause-before c = old_tape_told
