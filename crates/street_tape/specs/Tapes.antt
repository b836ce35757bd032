-- The text of a tape: a first line with the version and the number of calls, then a line for each call of the journal.
-- Keys stand in byte order, and each line ends with LF.
use Rattle.std.specs.Prelude.{ℕ, List, [], ◌∷◌, ◌++◌, length, codes}
use Rattle.serde_json.specs.Data.{Data, number, unsigned, string, object, no_members, member}
use Rattle.street_base.specs.declared.reply.Outcome.{Outcome}
use Rattle.street_base.specs.declared.reply.Outcome.TheVariants.{Whole, Starved, Short}
use Rattle.street_desk.specs.declared.journal.Entry.{Entry}
use Rattle.street_text.specs.ReplyLines.{number_at, line_of}
use Rattle.street_text.specs.CommandTexts.{command_data}

-- an outcome as JSON: the word `whole` or `starved`, or the count of steps that a short advance made
abbrev pub outcome_data : Outcome → Data
outcome_data Whole = string (codes "whole")
outcome_data Starved = string (codes "starved")
outcome_data (Short k) = number (unsigned k)

-- a call as JSON: an object with its command, outcome and session
abbrev pub entry_data : Entry → Data
entry_data e =
    object (member (codes "command") (command_data e.command) (member (codes "outcome") (outcome_data e.outcome)
    (number_at (codes "session") e.session no_members)))

-- the line of a call on a tape, its LF with it
unfoldable pub entry_line : Entry → List ℕ
entry_line e = line_of (entry_data e)

-- the first line of a tape of so many calls, as JSON: the count of calls, and version 2
abbrev pub head_data : ℕ → Data
head_data calls = object (number_at (codes "calls") calls (number_at (codes "tape") 2 no_members))

-- the first line of a tape of so many calls, its LF with it
unfoldable pub head_line : ℕ → List ℕ
head_line calls = line_of (head_data calls)

-- the lines of these calls, in their order
abbrev pub entry_lines : List Entry → List ℕ
entry_lines [] = []
entry_lines (e ∷ es) = entry_line e ++ entry_lines es

-- the text of the tape, of version 2, of a journal: the first line, with the count of calls, then a line for each call
abbrev pub tape_text : List Entry → List ℕ
tape_text es = head_line (length es) ++ entry_lines es

-- ---- version 1, which is read but no longer written

-- the first line of a tape of version 1, as JSON: the version alone
abbrev pub old_head_data : Data
old_head_data = object (number_at (codes "tape") 1 no_members)

-- the first line of a tape of version 1, its LF with it; it does not tell how many calls follow
unfoldable pub old_head_line : List ℕ
old_head_line = line_of old_head_data

-- the text of the tape of version 1 of a journal: that first line, then a line for each call
abbrev pub old_tape_text : List Entry → List ℕ
old_tape_text es = old_head_line ++ entry_lines es
