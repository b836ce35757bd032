-- The output of a text of lines.
use Rattle.std.specs.Prelude.{◌≡◌, ℕ, List, [], ◌∷◌, ◌++◌, length, Bool, true, false, if◌then◌else◌, Option, Some, None, Result, Ok, Err, codes, count_by}
use Rattle.std.specs.Io.KnownBytes.{Appends, Consumes, IsAtEnd}
use Rattle.street_base.specs.declared.command.Command.{Command}
use Rattle.street_stream.specs.Lines.{is_blank, lines_of}
use Rattle.street_stream.specs.declared.tally.Tally.{Tally}
use Rattle.street_line.specs.declared.service.Served.{Served}
use Rattle.street_line.specs.declared.service.Served.TheVariants.{Answered, Full, Unrecorded}
use Rattle.street_text.specs.ReplyLines.{line_of, error_data, reply_line}
use Rattle.street_text.specs.LineCommands.{reading}
use Rattle.street_text.specs.declared.fault.LineFault.{LineFault}
use Rattle.street_text.specs.FaultLines.{fault_line}

-- ---- one line

-- the line of reply to a served command, with LF: its reply, or the error that no place is left (`Full`); none where
-- the command has no answer
unfoldable pub served_line : Served → Option (List ℕ)
served_line (Answered reply) = Some (reply_line reply)
served_line Full = Some (line_of (error_data 23 (codes "Full")))
served_line Unrecorded = None

-- what a line is to a run: blank (`silent`), faulty, with its fault, or the call of a command
pub data Said : Type 0 where
  silent : Said
  faulty : LineFault → Said
  calls : Command → Said

-- what a line that is not blank says, by how it was read: a command, or the fault of the line
abbrev pub said_by : Result Command LineFault → Said
said_by (Ok c) = calls c
said_by (Err f) = faulty f

-- what a line says: nothing where it is blank, whatever its length, else its command or its fault
unfoldable pub said : List ℕ → Said
said line = if is_blank line then silent else said_by (reading line)

-- whether a line calls a command; false of a blank line and of a faulty one
abbrev pub is_call : Said → Bool
is_call silent = false
is_call (faulty f) = false
is_call (calls c) = true

-- whether a line gets a reply: each does but a blank one
abbrev pub has_reply : Said → Bool
has_reply silent = false
has_reply (faulty f) = true
has_reply (calls c) = true

-- ---- runs

module _ {S : Type 0} (serves : S → Command → Served → S → Type 0) where
  -- that a line that says this was served, from `old` to `new`, with this output: none for a blank line, its fault for
  -- a faulty line, with nothing changed, and for a command, served as `serves` says, its line of reply, which it must
  -- have
  abbrev pub Done : S → Said → List ℕ → S → Type 0
  Done old silent out new = (new ≡ old) × (out ≡ [])
  Done old (faulty f) out new = (new ≡ old) × (fault_line f ≡ Some out)
  Done old (calls c) out new = (r : Served) × serves old c r new × (served_line r ≡ Some out)

  -- that these lines were served one after another, from `old` to `new`, commands as `serves` says, and `out` is their
  -- output, each line's behind those before; where there are no lines, nothing changes
  abbrev pub Goes : S → List (List ℕ) → List ℕ → S → Type 0
  Goes old [] out new = (new ≡ old) × (out ≡ [])
  Goes old (l ∷ ls) out new = (mid : S) × (first : List ℕ) × (rest : List ℕ) × Done old (said l) first mid × Goes mid ls rest new × (out ≡ first ++ rest)

-- that the tally counts these lines, the commands among them (`calls`), the replies, one for each line but blank ones,
-- and the bytes of their output
pub record IsTally (tally : Tally) (ls : List (List ℕ)) (out : List ℕ) : Type 0 where
  pub lines : tally.lines ≡ length ls
  pub calls : tally.calls ≡ count_by (λ l. is_call (said l)) ls
  pub replies : tally.replies ≡ count_by (λ l. has_reply (said l)) ls
  pub bytes : tally.bytes ≡ length out

-- that the reader was read to its end, `unread` to `left`, all lines of its text were served, from `start` to `now`,
-- their whole output is written, `before` to `after`, and the tally counts them; of unknown bytes (none), read or
-- written, nothing is said
pub record ServedWhole {S : Type 0} (serves : S → Command → Served → S → Type 0) (start : S) (unread before : Option (List ℕ))
    (now : S) (left after : Option (List ℕ)) (tally : Tally) : Type 0 where
  pub text : List ℕ
  pub out : List ℕ
  pub read : Consumes unread left text
  pub at_end : IsAtEnd left
  pub served : Goes serves start (lines_of text) out now
  pub written : Appends before after out
  pub counted : IsTally tally (lines_of text) out
