use Rattle.std.proofs.Common.{None}
use Rattle.street_tape.proofs.Legal.{legal_again, legal_parts}
use Rattle.street_tape.proofs.GoodTapes.{never_bad, never_refused}
use Rattle.street_tape.proofs.replay_laws.tape_replays.Goals as goal

pub returns-clause-parts : goal.returns-clause-parts
returns-clause-parts c = λ history legal. legal_parts None history legal

pub returns-clause-calls : goal.returns-clause-calls
returns-clause-calls c = λ history fits es says. let back = c.tape_reads_back.ensures.now history fits in cc

pub returns-clause-each : goal.returns-clause-each
returns-clause-each c = λ history legal. legal_again None history legal

pub returns-clause-good : goal.returns-clause-good
returns-clause-good c = λ history legal fits text more is before view after fault breaks.
    never_bad _ history (c.tape_reads_back.ensures.now history fits) (legal_again None history legal) text more is before view after fault breaks

pub returns-clause-upgrades : goal.returns-clause-upgrades
returns-clause-upgrades c = λ history fits text more is before after fault breaks.
    never_refused _ history (c.tape_reads_back.ensures.now history fits) text more is before after fault breaks
