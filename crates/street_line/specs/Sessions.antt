-- What a desk serves to one of its callers.
use Rattle.std.specs.Prelude.{◌≡◌, ◌<◌, ℕ, List, [], ◌∷◌, ◌++◌, length}
use Rattle.street_base.specs.declared.command.Command.{Command}
use Rattle.street_base.specs.declared.reply.Outcome.{Outcome}
use Rattle.street_base.specs.Prelude.{Allows, reply_to}
use Rattle.street_desk.specs.declared.journal.Entry.{Entry}
use Rattle.street_desk.specs.History.{entry, state_of, IsHistory}
use Rattle.street_desk.specs.Passes.{PassView, Answered as IsAnswered, Filled}
use Rattle.street_line.specs.declared.service.Served.{Served}
use Rattle.street_line.specs.declared.service.Served.TheVariants.{Answered, Full, Unrecorded}

-- that a desk served a command to a pass: an answered command is one more call that the pass has seen, with the
-- machine's reply; or the journal was full, which the pass has seen, and nothing was called; a command is never without
-- answer
abbrev pub DeskServes : PassView → Command → Served → PassView → Type 0
DeskServes before command (Answered reply) after = IsAnswered before command reply after
DeskServes before command Full after = Filled before after
DeskServes before command Unrecorded after = ⊥

-- that the pass is at a desk of one session, which is its own, session 0, and has seen a legal history of that session
pub record IsAlone (p : PassView) : Type 0 where
  pub sessions : p.desk.sessions ≡ 1
  pub least : p.least ≡ 0
  pub history : IsHistory 1 p.seen

-- that a desk's only session was served a command: while its history has fewer than `most` calls, with the machine's
-- reply there under an outcome that it allows, as one call more; at `most` it is told that no place is left
abbrev pub AloneServes : ℕ → List Entry → Command → Served → List Entry → Type 0
AloneServes most old command (Answered reply) new = (outcome : Outcome)
    × Allows (state_of old) command outcome
    × (reply ≡ reply_to (state_of old) command outcome)
    × (new ≡ old ++ entry 0 command outcome ∷ [])
    × (length old < most)
AloneServes most old command Full new = (new ≡ old) × (length old ≡ most)
AloneServes most old command Unrecorded new = ⊥
