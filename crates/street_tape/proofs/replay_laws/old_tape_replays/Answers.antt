use Rattle.std.proofs.Common.{◌≡◌, None, ap, ◌∙◌}
use Rattle.street_tape.proofs.Legal.{legal_again}
use Rattle.street_tape.proofs.GoodTapes.{never_bad, never_refused}
use Rattle.street_tape.specs.Entries.{tape_reading}
use Rattle.street_tape.specs.Tapes.{tape_text}
use Rattle.street_tape.proofs.replay_laws.old_tape_replays.Goals as goal

pub returns-clause-calls : goal.returns-clause-calls
returns-clause-calls c = λ history fits untold es says. let back = c.tape_reads_back.ensures.before history fits untold in cc

pub returns-clause-upgraded : goal.returns-clause-upgraded
returns-clause-upgraded c = λ history fits untold es says.
    let back = c.tape_reads_back.ensures.before history fits.each untold in
    let same : es ≡ history = cc in
    (ap tape_text same, ap (λ h. tape_reading (tape_text h)) same ∙ c.tape_reads_back.ensures.now history fits)

pub returns-clause-good : goal.returns-clause-good
returns-clause-good c = λ history legal fits untold text more is before view after fault breaks.
    never_bad _ history (c.tape_reads_back.ensures.before history fits untold) (legal_again None history legal) text more is before view after fault breaks

pub returns-clause-upgrades : goal.returns-clause-upgrades
returns-clause-upgrades c = λ history fits untold text more is before after fault breaks.
    never_refused _ history (c.tape_reads_back.ensures.before history fits untold) text more is before after fault breaks
