-- What an upgrade leaves.
-- Nothing is applied; what is written is the tape of version 2.
use Rattle.std.specs.Prelude.{◌≡◌, ℕ, ◌⊎◌, List, [], ◌++◌, length, Bool, true, false, Option, Some, None, ⊤}
use Rattle.std.specs.Io.KnownBytes.{Appends, Consumes, IsAtEnd}
use Rattle.street_desk.specs.declared.journal.Entry.{Entry}
use Rattle.street_stream.specs.Faults.{CountsLines}
use Rattle.street_stream.specs.HandledLines.{Effect}
use Rattle.street_stream.specs.Lines.{lines_of}
use Rattle.street_stream.specs.declared.tally.FaultKind.{FaultKind}
use Rattle.street_stream.specs.declared.tally.RunFault.{RunFault}
use Rattle.street_stream.specs.declared.tally.Tally.{Tally}
use Rattle.street_tape.specs.BadTapes.{IsNoTape, IsBadAt}
use Rattle.street_tape.specs.declared.fault.TapeFault.{TapeFault}
use Rattle.street_tape.specs.declared.fault.TapeFault.TheVariants.{NotTape, BadEntry, Run}
use Rattle.street_tape.specs.declared.upgrades.Upgrader.{Upgrader}
use Rattle.street_tape.specs.Entries.{calls_in, tape_reading}
use Rattle.street_tape.specs.TapeLines.{Takes, Refuses}
use Rattle.street_tape.specs.Tapes.{entry_line, tape_text}
use Rattle.street_tape.specs.Written.{IsPrefix}
use Rattle.street_tape.specs.declared.tape.Stop.{Stop}

-- that the tally is that of a whole upgrade: the lines and calls of the old tape, no reply, and the bytes of the new
-- tape
pub record IsUpgradeTally (tally : Tally) (ls : List (List ℕ)) (es : List Entry) : Type 0 where
  pub lines : tally.lines ≡ length ls
  pub calls : tally.calls ≡ length es
  pub replies : tally.replies ≡ 0
  pub bytes : tally.bytes ≡ length (tape_text es)

-- the tally with this count of bytes in place of its own; lines, calls and replies stay
abbrev pub with_bytes : Tally → ℕ → Tally
with_bytes tally bytes = record { lines = tally.lines; calls = tally.calls; replies = tally.replies; bytes = bytes }

-- that the tape was read to its end, `unread` to `left`, and can be read, the tape of version 2 of its calls is
-- written, `before` to `after` (none where unknown), and the tally counts its lines and calls, no reply, and the new
-- bytes
pub record UpgradesWhole (unread before left after : Option (List ℕ)) (tally : Tally) : Type 0 where
  pub text : List ℕ
  pub entries : List Entry
  pub read : Consumes unread left text
  pub at_end : IsAtEnd left
  pub says : tape_reading text ≡ Some entries
  pub written : Appends before after (tape_text entries)
  pub counted : IsUpgradeTally tally (lines_of text) entries

-- that a fault of the run ended an upgrade: `tally` counts the first lines and their calls, no reply, and the first
-- bytes of the new tape, which are written behind `before`; there are none unless the old one was read to its end and
-- is good
pub record Cuts (at_end : Type 0) (before : Option (List ℕ)) (text : List ℕ) (after : Option (List ℕ)) (kind : FaultKind) (tally : Tally) : Type 0 where
  pub done : List (List ℕ)
  pub rest : List (List ℕ)
  pub entries : List Entry
  pub first_lines : lines_of text ≡ done ++ rest
  pub says : calls_in done ≡ Some entries
  pub written : IsPrefix before 0 (tape_text entries) after tally.bytes
  pub whole : (tally.bytes ≡ 0) ⊎ (at_end × (tape_reading text ≡ Some entries))
  -- a line for which memory ran out was taken up, but not kept
  pub lines : CountsLines kind tally done
  pub calls : tally.calls ≡ length entries
  pub replies : tally.replies ≡ 0

-- that a fault left this of an upgrade: nothing written, `before` to `after` (none where unknown), where the text is no
-- tape, or is a bad one, of which the fault tells the number of the first bad line; where the fault is of the run,
-- first bytes of the new tape, perhaps all or none, as `Cuts` says
abbrev pub UpgradeBreaks : Type 0 → Option (List ℕ) → List ℕ → Option (List ℕ) → TapeFault → Type 0
UpgradeBreaks at_end before text after NotTape = IsNoTape at_end text × Appends before after []
UpgradeBreaks at_end before text after (BadEntry line) = (es : List Entry) × IsBadAt at_end (λ es. ⊤) text es line × Appends before after []
UpgradeBreaks at_end before text after (Run fault) = Cuts at_end before text after fault.kind fault.tally

-- that a fault ended an upgrade: `text` was read of `unread`, with `left` left, and the output, from `before` to
-- `after` (none where unknown), is what `UpgradeBreaks` says of that text and fault: nothing, or first bytes of the new
-- tape
pub record UpgradeStops (unread before left after : Option (List ℕ)) (fault : TapeFault) : Type 0 where
  pub text : List ℕ
  pub read : Consumes unread left text
  pub breaks : UpgradeBreaks (IsAtEnd left) before text after fault

-- ---- the end of an upgrade

-- that the whole text was written, `before` to `after` (none where unknown), and `all` is the tally with the text's
-- count of bytes in place of its own
abbrev pub IsKept : Tally → Option (List ℕ) → List ℕ → Option (List ℕ) → Tally → Type 0
IsKept tally before text after all = (all ≡ with_bytes tally (length text)) × Appends before after text

-- that first bytes of the text were written, perhaps all or none, `before` to `after` (none where unknown), and the
-- fault's tally is `tally` with their count in place of its own count of bytes
abbrev pub CutShort : Tally → Option (List ℕ) → List ℕ → Option (List ℕ) → RunFault → Type 0
CutShort tally before text after fault = (fault.tally ≡ with_bytes tally fault.tally.bytes) × IsPrefix before 0 text after fault.tally.bytes

-- ---- an upgrade as a handler of lines

-- the line of a call on a tape, with LF; no bytes where there is no call
abbrev pub line_of_call : Option Entry → List ℕ
line_of_call None = []
line_of_call (Some e) = entry_line e

-- whether there is a call; false where there is none, as on a tape's first line
abbrev pub is_call : Option Entry → Bool
is_call None = false
is_call (Some e) = true

-- that the next line of the old tape was taken (`Takes`), and the new line of its call, if it says one, put behind
-- those kept so far; it has no reply, and is a call where it says one
abbrev pub UpgradesLine : Upgrader → List ℕ → Effect → Upgrader → Type 0
UpgradesLine old line effect new =
    (call : Option Entry) × Takes old.tape.rest line call new.tape.rest × (new.lines.items ≡ old.lines.items ++ line_of_call call)
    × (effect ≡ record { is_call = is_call call; reply = None })

-- that the upgrade stopped at this line for this reason: the line is not one that the tape may have there, or memory
-- ran out, of which nothing is asked (`Refuses`); of the upgrader afterwards, `new`, nothing is said
abbrev pub RefusesLine : Upgrader → List ℕ → Stop → Upgrader → Type 0
RefusesLine old line stop new = Refuses old.tape.rest line stop
