-- A session that is kept, as a function: what it replies and what its file has then, where memory is there and nothing
-- fails.
use Rattle.std.specs.Prelude.{◌≡◌, ℕ, ◌+◌, ◌-◌, List, [], ◌∷◌, ◌++◌, length, take, if◌then◌else◌, Option, Some, None, Result, Ok, Err}
use Rattle.street_base.specs.declared.command.Command.{Command}
use Rattle.street_base.specs.declared.reply.Outcome.TheVariants.{Whole}
use Rattle.street_base.specs.Prelude.{Answers, State, reply_to, state_after}
use Rattle.street_stream.specs.Lines.{cut, lines_of}
use Rattle.street_text.specs.FaultLines.{fault_line}
use Rattle.street_text.specs.ReplyLines.{reply_line}
use Rattle.street_line.specs.Redo.{is_done}
use Rattle.street_line.specs.Kept.{entry_of, is_change}
use Rattle.street_line.specs.KeptFiles.{ServesOn, sound}
use Rattle.street_line.specs.Runs.{Said, silent, faulty, calls, said}
use Rattle.street_line.specs.declared.redo.RedoneLines.{RedoneLines}
use Rattle.street_line.specs.declared.service.Served.{Served}
use Rattle.street_line.specs.declared.service.Served.TheVariants.{Answered, Full, Unrecorded}

-- that the machine did a command whole, as it does where memory is there, from state `old` to `new`, and answered it;
-- it is never full, and leaves no command unanswered
abbrev pub WholeServes : State → Command → Served → State → Type 0
WholeServes old command (Answered reply) new = Answers old command reply Whole new
WholeServes old command Full new = ⊥
WholeServes old command Unrecorded new = ⊥

-- ---- lines that are served

-- a kept session as far as it has come: the machine's state, the bytes of the replies that went out, and `kept`, the
-- bytes of the lines that its file keeps of it
pub record Session : Type 0 where
  pub machine : State
  pub replies : List ℕ
  pub kept : List ℕ

-- the reply line to a faulty line; no bytes where there is none
abbrev pub told : Option (List ℕ) → List ℕ
told None = []
told (Some line) = line

-- the session after one more line, which says this: a faulty line adds the reply that tells its fault; a command is
-- done whole, adds its reply, and the line is kept where that tells of a change (`is_change`); a blank line adds
-- nothing
abbrev pub with_line : Session → Said → List ℕ → Session
with_line s silent line = s
with_line s (faulty fault) line = record s { replies = s.replies ++ told (fault_line fault) }
with_line s (calls c) line = record {
  machine = state_after s.machine c Whole;
  replies = s.replies ++ reply_line (reply_to s.machine c Whole);
  kept = s.kept ++ entry_of (is_change (reply_to s.machine c Whole)) line;
}

-- the session after these lines, one after another
abbrev pub with_lines : Session → List (List ℕ) → Session
with_lines s [] = s
with_lines s (l ∷ ls) = with_lines (with_line s (said l) l) ls

-- a session from machine m on, with nothing out and nothing kept yet
abbrev pub begun_at : State → Session
begun_at m = record { machine = m; replies = []; kept = [] }

-- ---- lines that are done again

-- the state after line n of a kept file, which says this, was done again: as it was for a blank line; n where the line
-- is faulty or its command not done; where an earlier line was bad, the number of that line
abbrev pub redo_line : ℕ → Result State ℕ → Said → Result State ℕ
redo_line n (Err bad) what = Err bad
redo_line n (Ok m) silent = Ok m
redo_line n (Ok m) (faulty fault) = Err n
redo_line n (Ok m) (calls c) = if is_done (reply_to m c Whole) then Ok (state_after m c Whole) else Err n

-- the state after these lines of a kept file were done again from `at`, of which the first has number n; or the number
-- of the first bad line; `at` where there are none
abbrev pub redo_lines : ℕ → Result State ℕ → List (List ℕ) → Result State ℕ
redo_lines n at [] = at
redo_lines n at (l ∷ ls) = redo_lines (n + 1) (redo_line n at (said l)) ls

-- ---- a session that goes on from a file

-- what a session that went on from a file leaves: the count of lines done again, the bytes of its replies, and the
-- file's text
pub record Left : Type 0 where
  pub lines : ℕ
  pub replies : List ℕ
  pub file : List ℕ

-- the lines of a file that have ended before its first NUL, as bytes: a torn last line is left out
abbrev pub ended : List ℕ → List ℕ
ended had = take (length (sound had) - length (cut (sound had)).1) (sound had)

-- what a session leaves that went on from a file of text `had`: the count of the file's ended lines before its first
-- NUL, its replies, and these lines with those that the session keeps behind them
abbrev pub left_by : List ℕ → Session → Left
left_by had s = record { lines = length (cut (sound had)).0; replies = s.replies; file = ended had ++ s.kept }

-- what a session leaves that goes on from a file of text `had` and reads `text`, once the file's lines led to state m;
-- where a line of the file could not be done, the number of that line
abbrev pub goes_on : List ℕ → List ℕ → Result State ℕ → Result Left ℕ
goes_on had text (Err bad) = Err bad
goes_on had text (Ok m) = Ok (left_by had (with_lines (begun_at m) (lines_of text)))

-- what a session leaves that goes on, from nothing loaded, from a file of text `had` and reads `text`; or the number,
-- from 1, of the file's first bad line
abbrev pub kept_session : List ℕ → List ℕ → Result Left ℕ
kept_session had text = goes_on had text (redo_lines 1 (Ok None) (cut (sound had)).0)

-- that a session by `serves` that goes on, from nothing loaded, from a file of text `had` and reads `text` to its end,
-- with no fault, leaves `left`: so many lines done again, these replies written, and this file, synced
pub record IsSession (serves : State → Command → Served → State → Type 0) (had text : List ℕ) (left : Left) : Type 0 where
  pub redo : RedoneLines
  pub now : State
  pub lines : redo.lines ≡ left.lines
  pub serves_on : ServesOn serves None (Some had) (Some text) (Some []) redo now (Some []) (Some left.file) (Some left.file) (Some left.replies)
