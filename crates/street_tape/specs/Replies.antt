-- What the calls of a tape give when they are replayed.
-- Each call goes as it went at the desk: whole, not at all, or as far as the steps that were made.
use Rattle.std.specs.Prelude.{◌≡◌, ℕ, List, [], ◌∷◌, ◌++◌, length, Option, Some, None, ⊤}
use Rattle.street_base.specs.declared.command.Command.{Command}
use Rattle.street_base.specs.declared.reply.Outcome.{Outcome}
use Rattle.street_base.specs.declared.reply.Outcome.TheVariants.{Whole, Starved, Short}
use Rattle.street_base.specs.declared.reply.Reply.{Reply}
use Rattle.street_base.specs.declared.reply.Reply.TheVariants.{Clock}
use Rattle.street_base.specs.Prelude.{MayBeShort, state_after, State}
use Rattle.street_desk.specs.declared.journal.Entry.{Entry}
use Rattle.street_desk.specs.History.{answers_from}
use Rattle.street_stream.specs.declared.tally.Tally.{Tally}
use Rattle.street_text.specs.ReplyLines.{reply_line}

-- that a call with this outcome can be replayed from state m: whole or starved always, short only where the machine
-- allows the command, an advance, to stop after k steps there
abbrev pub IsReplayable : State → Command → Outcome → Type 0
IsReplayable m c Whole = ⊤
IsReplayable m c Starved = ⊤
IsReplayable m c (Short k) = MayBeShort m c k

-- that each of these calls can be replayed, one after another, from state m on: a short one only where the machine may
-- stop that advance there (`IsReplayable`)
abbrev pub AreReplayable : State → List Entry → Type 0
AreReplayable m [] = ⊤
AreReplayable m (e ∷ es) = IsReplayable m e.command e.outcome × AreReplayable (state_after m e.command e.outcome) es

-- the reply lines of these answers, in their order
abbrev pub reply_lines : List (Reply × Outcome) → List ℕ
reply_lines [] = []
reply_lines (a ∷ more) = reply_line a.0 ++ reply_lines more

-- the bytes of the machine's replies to these calls with their outcomes, from state m on, a line with LF for each, in
-- order
abbrev pub output_from : State → List Entry → List ℕ
output_from m es = reply_lines (answers_from m es)

-- the clock that the reply to an advance done whole tells; none of any other reply
abbrev pub clock_in : Reply → Option ℕ
clock_in (Clock clock) = Some clock
clock_in reply = None

-- that the tally is that of a whole tape's replay: its lines, a call and a reply for each of its calls, and the bytes
-- of the replies
pub record IsTapeTally (tally : Tally) (ls : List (List ℕ)) (es : List Entry) (out : List ℕ) : Type 0 where
  pub lines : tally.lines ≡ length ls
  pub calls : tally.calls ≡ length es
  pub replies : tally.replies ≡ length es
  pub bytes : tally.bytes ≡ length out
