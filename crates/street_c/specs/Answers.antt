-- What a session answers, in words that name no call of C.
use Rattle.std.specs.Prelude.{◌≡◌, ◌≢◌, ◌<◌, ℕ, List, [], length, Bool, true, false, Option, Some, None, Result, Ok, Err}
use Rattle.street_base.specs.declared.command.Command.{Command}
use Rattle.street_base.specs.declared.reply.Outcome.{Outcome}
use Rattle.street_base.specs.declared.reply.Reply.{Reply}
use Rattle.street_engine.specs.Prelude.{EngineView, Serves}
use Rattle.street_stream.specs.Lines.{is_blank}
use Rattle.street_text.specs.FaultLines.{fault_line}
use Rattle.street_text.specs.LineCommands.{reading}
use Rattle.street_text.specs.ReplyLines.{reply_line}
use Rattle.street_text.specs.declared.fault.LineFault.{LineFault}
use Rattle.street_c.specs.declared.session.LineEnd.{LineEnd}
use Rattle.street_c.specs.declared.session.LineEnd.TheVariants.{Told, Untold, Unserved}
use Rattle.street_c.specs.declared.session.Session.{Session}

-- that an engine answered a command as the machine does under some outcome, from any state for which it stood
-- (`Serves`)
abbrev pub Replies : EngineView → Command → Reply → EngineView → Type 0
Replies before command reply after = (outcome : Outcome) × Serves before command reply outcome after

-- that a line that reads so was served, and `out` is its output: a command's reply, or a fault, with nothing served
abbrev pub Says : EngineView → Result Command LineFault → List ℕ → EngineView → Type 0
Says before (Ok command) out after = (reply : Reply) × Replies before command reply after × (out ≡ reply_line reply)
Says before (Err fault) out after = (after ≡ before) × (fault_line fault ≡ Some out)

-- the same of any line, by whether it is blank: a blank one has no output, and nothing is served
abbrev pub SaysUnless : Bool → EngineView → Result Command LineFault → List ℕ → EngineView → Type 0
SaysUnless true before read out after = (after ≡ before) × (out ≡ [])
SaysUnless false before read out after = Says before read out after

-- that a line was served by an engine, as the program serves it, and `out` is its output
abbrev pub ServesLine : EngineView → List ℕ → List ℕ → EngineView → Type 0
ServesLine before line out after = SaysUnless (is_blank line) before (reading line) out after

-- ---- of sessions

-- the line of a reply that was not made yet, else the one that was
abbrev pub line_or : List ℕ → Option Reply → List ℕ
line_or text None = text
line_or text (Some reply) = reply_line reply

-- the output that a session has for who asks again: of its last line or call
abbrev pub last_output : Session → List ℕ
last_output session = line_or session.text.items session.unsaid

-- that a session stands as it stood: nothing was served, and it has the output that it had
abbrev pub NothingDone : Session → Session → Type 0
NothingDone old new = (new.engine ≡ old.engine) × (last_output new ≡ last_output old)

-- that a session served a command, and has its reply, whose line is not made yet
abbrev pub HasUnsaid : Session → Command → Session → Type 0
HasUnsaid old command new = (reply : Reply) × Replies old.engine command reply new.engine × (new.unsaid ≡ Some reply)

-- what became of the command of a line: the session has the line of its reply, or its reply
abbrev pub EndsCall : Session → Command → LineEnd → Session → Type 0
EndsCall old command Told new = Says old.engine (Ok command) new.text.items new.engine × (new.unsaid ≡ None)
EndsCall old command Untold new = HasUnsaid old command new
EndsCall old command Unserved new = ⊥

-- what became of a line that reads so and is not blank: it was served, and the session has its output; or its command
-- was served, and the session has the reply; or memory was refused, and nothing was done
abbrev pub EndsRead : Session → Result Command LineFault → LineEnd → Session → Type 0
EndsRead old read Told new = Says old.engine read new.text.items new.engine × (new.unsaid ≡ None)
EndsRead old read Untold new = (command : Command) × (read ≡ Ok command) × HasUnsaid old command new
EndsRead old read Unserved new = NothingDone old new

-- what became of a line, blank or not
abbrev pub EndsLine : Session → List ℕ → LineEnd → Session → Type 0
EndsLine old line Told new = ServesLine old.engine line new.text.items new.engine × (new.unsaid ≡ None)
EndsLine old line Untold new = (command : Command) × (is_blank line ≡ false) × (reading line ≡ Ok command) × HasUnsaid old command new
EndsLine old line Unserved new = NothingDone old new

-- ---- of handles, which hold a session or none

-- that a handle held a session before and holds one after, of which this is so
abbrev pub Both : (Session → Session → Type 0) → Option Session → Option Session → Type 0
Both says (Some old) (Some new) = says old new
Both says (Some old) None = ⊥
Both says None new = ⊥

-- that a session served a line, and `out` is its output, which it has
abbrev pub Answers : List ℕ → List ℕ → Session → Session → Type 0
Answers line out old new = ServesLine old.engine line out new.engine × (last_output new ≡ out)

-- that a session served a line, and has its output, of so many bytes, more than there is room for
abbrev pub AnswersLong : List ℕ → ℕ → List ℕ → Session → Session → Type 0
AnswersLong line bytes room old new = ServesLine old.engine line (last_output new) new.engine × (bytes ≡ length (last_output new)) × (length room < bytes)

-- that a session answered a command so, and has no output
abbrev pub Answered : Command → Reply → Session → Session → Type 0
Answered command reply old new = Replies old.engine command reply new.engine × (last_output new ≡ [])

-- that a session gave the output that it had, and has it still: nothing was served
abbrev pub TellsAgain : List ℕ → Session → Session → Type 0
TellsAgain out old new = NothingDone old new × (out ≡ last_output old)

-- that the output that a session has, and has still, has so many bytes, more than there is room for
abbrev pub TellsLong : ℕ → List ℕ → Session → Session → Type 0
TellsLong bytes room old new = NothingDone old new × (bytes ≡ length (last_output old)) × (length room < bytes)

-- that the line of a reply could not be made, and is not made yet
abbrev pub StaysUntold : Session → Session → Type 0
StaysUntold old new = NothingDone old new × (old.unsaid ≢ None)

-- that a session answered a command by a reply of which this is so, and has no output
abbrev pub Shows : (Reply → Type 0) → Command → Session → Session → Type 0
Shows says command old new = (reply : Reply) × Replies old.engine command reply new.engine × says reply × (last_output new ≡ [])

-- that a session answered a command by a reply of which this is so, whose line is its output, not made yet
abbrev pub Keeps : (Reply → Type 0) → Command → Session → Session → Type 0
Keeps says command old new = (reply : Reply) × Replies old.engine command reply new.engine × says reply × (new.unsaid ≡ Some reply)
