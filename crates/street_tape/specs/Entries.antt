-- What the lines of a tape say.
-- Keys may stand in any order, and unknown ones are ignored, as in commands.
use Rattle.std.specs.Prelude.{◌≡◌, ℕ, ◌-◌, ◌==◌, ◌≤◌, List, [], ◌∷◌, length, nat_lt, nat_le, ◌&&◌, if◌then◌else◌, Bool, true, false, Option, Some, None, option_map, option_and_then, Result, Ok, Err, codes, bytes_eq, All, ⊤}
use Rattle.std.specs.Option.{option_map_or}
use Rattle.serde_json.specs.Data.{Data}
use Rattle.serde_json.specs.Find.{as_str}
use Rattle.serde_json.specs.View.{view}
use Rattle.serde_json.specs.Written.{compact_text}
use Rattle.serde_json.specs.declared.value.Value.{Value}
use Rattle.street_base.specs.declared.command.Command.{Command}
use Rattle.street_base.specs.declared.command.Command.TheVariants.{Advance}
use Rattle.street_base.specs.declared.reply.Outcome.{Outcome}
use Rattle.street_base.specs.declared.reply.Outcome.TheVariants.{Whole, Starved, Short}
use Rattle.street_desk.specs.declared.journal.Entry.{Entry}
use Rattle.street_desk.specs.History.{entry}
use Rattle.street_stream.specs.Lines.{lines_of}
use Rattle.street_text.specs.LineCommands.{number_in, field, number_field, command_in, ◌with◌, value_of, or_fault}
use Rattle.street_text.specs.declared.fault.LineFault.{LineFault}
use Rattle.street_text.specs.declared.fault.LineFault.TheVariants.{LineTooLong, NotJson, BadCommand, Starved as NoMemory}
use Rattle.street_tape.specs.Tapes.{entry_data}
use Rattle.street_tape.specs.declared.head.TapeHead.{TapeHead}
use Rattle.street_tape.specs.declared.head.TapeHead.TheVariants.{Version1, Version2}
use Rattle.street_text.specs.Fits.{IsWord, Fits}

-- the most bytes of a line of a tape, its LF not counted
abbrev pub longest_tape_line : ℕ
longest_tape_line = 2097152

-- ---- one line

-- the value that was read; the fault `NotJson` where there is none
abbrev pub value_or_fault : Option Data → Result Data LineFault
value_or_fault None = Err NotJson
value_or_fault (Some d) = Ok d

-- the JSON value of a line of a tape; the fault `LineTooLong` where it has more bytes than such a line may, or
-- `NotJson` where it is no JSON
unfoldable pub tape_value : List ℕ → Result Data LineFault
tape_value line = if nat_lt longest_tape_line (length line) then Err LineTooLong else value_or_fault (value_of line)

-- what f makes of the value; where a fault was found instead, that fault
abbrev pub and_then : {A B : Type 0} → (A → Result B LineFault) → Result A LineFault → Result B LineFault
and_then f (Ok x) = f x
and_then f (Err e) = Err e

-- that a fault which was answered in place of a value is the fault `wanted`; where memory ran out, nothing is said of
-- `wanted`; it is never `BadCommand`
abbrev pub FailsData : LineFault → Result Data LineFault → Type 0
FailsData NoMemory wanted = ⊤
FailsData LineTooLong wanted = wanted ≡ Err LineTooLong
FailsData NotJson wanted = wanted ≡ Err NotJson
FailsData BadCommand wanted = ⊥

-- that the answer is the value or the fault that was wanted, or tells that memory ran out, which says nothing of
-- `wanted`
abbrev pub GivesTapeValue : Result Value LineFault → Result Data LineFault → Type 0
GivesTapeValue (Ok v) wanted = wanted ≡ Ok (view v)
GivesTapeValue (Err e) wanted = FailsData e wanted

-- ---- the first line

-- the head of a tape of this version: 1, or 2 with the count of calls that follow, under the key `calls`; none of
-- another version or without that count
abbrev pub head_of : ℕ → Data → Option TapeHead
head_of version d = if version == 1 then Some Version1 else (if version == 2 then option_map Version2 (number_field (codes "calls") d) else None)

-- the head of a tape that a JSON value tells, version under the key `tape`; none where it has no version, one that is
-- not known, or version 2 without the count of calls
unfoldable pub head_in : Data → Option TapeHead
head_in d = option_and_then (λ version. head_of version d) (number_field (codes "tape") d)

-- the head of a tape that its first line tells, or the first fault of that line: too long, no JSON, or `BadCommand`
-- where it tells no head
unfoldable pub head_reading : List ℕ → Result TapeHead LineFault
head_reading line = and_then (λ d. or_fault BadCommand (head_in d)) (tape_value line)

-- whether the sizes that the calls of a tape with this head tell are read: in version 1 they are not, and each vehicle
-- has size 1
abbrev pub is_sized : TapeHead → Bool
is_sized Version1 = false
is_sized (Version2 calls) = true

-- the head as it counts the calls that are still to follow, after one call more; none where no further call may follow
abbrev pub after_call : TapeHead → Option TapeHead
after_call Version1 = Some Version1
after_call (Version2 calls) = if calls == 0 then None else Some (Version2 (calls - 1))

-- whether a tape with this head may have n calls: in version 1 any count, in version 2 at most its own
abbrev pub may_have : TapeHead → ℕ → Bool
may_have Version1 n = true
may_have (Version2 calls) n = nat_le n calls

-- whether a tape with this head is whole with n calls: in version 1 always, in version 2 with just its own count
abbrev pub is_whole : TapeHead → ℕ → Bool
is_whole Version1 n = true
is_whole (Version2 calls) n = n == calls

-- ---- a further line

-- the outcome that a word names, `whole` or `starved`; none of any other word
abbrev pub named_outcome : List ℕ → Option Outcome
named_outcome name = if bytes_eq name (codes "whole") then Some Whole else (if bytes_eq name (codes "starved") then Some Starved else None)

-- the outcome that a JSON value tells: a word, `whole` or `starved`, or a number k, an advance stopped short after k
-- steps; none of any other value
unfoldable pub outcome_in : Data → Option Outcome
outcome_in d = option_map_or named_outcome (as_str d) (option_map Short (number_in d))

-- whether a command can have this outcome: only an advance can be short, after at least one step and before its last;
-- each can be whole or starved
abbrev pub is_part : Command → Outcome → Bool
is_part (Advance steps) (Short k) = nat_lt 0 k && nat_lt k steps
is_part c (Short k) = false
is_part c o = true

-- the call itself; none where it is short and its command is not an advance that could stop after just so many steps,
-- from one to one below its last; a starved call is never left out
abbrev pub if_part : Entry → Option Entry
if_part e = if is_part e.command e.outcome then Some e else None

-- the call that a JSON value tells, with command, outcome and session; none where one of them is missing or bad;
-- `sized` says whether the size of an `enter` is read
unfoldable pub call_in : Bool → Data → Option Entry
call_in sized d =
    Some (λ command outcome session. entry session command outcome)
    with field (command_in sized) (codes "command") d
    with field outcome_in (codes "outcome") d
    with number_field (codes "session") d

-- the call that a JSON value tells, by command, outcome and session; none where it tells none, or one whose command
-- cannot have its outcome (`is_part`)
unfoldable pub entry_in : Bool → Data → Option Entry
entry_in sized d = option_and_then if_part (call_in sized d)

-- the call that a further line of a tape says, or the first fault of that line: too long, no JSON, or `BadCommand`
-- where it says no call; `sized` says whether the size of an `enter` is read
unfoldable pub entry_reading : Bool → List ℕ → Result Entry LineFault
entry_reading sized line = and_then (λ d. or_fault BadCommand (entry_in sized d)) (tape_value line)

-- ---- all lines

-- the call of a line before the calls of the lines behind it; none where the line has a fault, or a line behind it has
abbrev pub onto : Result Entry LineFault → Option (List Entry) → Option (List Entry)
onto (Ok e) es = option_map (λ rest. e ∷ rest) es
onto (Err f) es = None

-- the calls that these lines say, one to a line, in order; none where a line has a fault; `sized` says whether the size
-- of an `enter` is read
abbrev pub entries_of : Bool → List (List ℕ) → Option (List Entry)
entries_of sized [] = Some []
entries_of sized (l ∷ ls) = onto (entry_reading sized l) (entries_of sized ls)

-- the calls of the lines ls behind a first line that was read so; none where it has a fault, a line has one, or there
-- are more lines than the head allows
abbrev pub calls_after : Result TapeHead LineFault → List (List ℕ) → Option (List Entry)
calls_after (Ok head) ls = if may_have head (length ls) then entries_of (is_sized head) ls else None
calls_after (Err f) ls = None

-- the calls that the first lines of a tape say, so far as they go, no call where there is no line; none where a line
-- has a fault, or there are more lines than the head allows
abbrev pub calls_in : List (List ℕ) → Option (List Entry)
calls_in [] = Some []
calls_in (l ∷ ls) = calls_after (head_reading l) ls

-- the calls of the lines ls behind a first line that was read so; none where it has a fault, a line has one, or the
-- count of lines is not the head's
abbrev pub all_after : Result TapeHead LineFault → List (List ℕ) → Option (List Entry)
all_after (Ok head) ls = if is_whole head (length ls) then entries_of (is_sized head) ls else None
all_after (Err f) ls = None

-- the calls that all lines of a tape say; none where the tape has no line, a line has a fault, or the count of calls is
-- not that of its head
abbrev pub tape_in : List (List ℕ) → Option (List Entry)
tape_in [] = None
tape_in (l ∷ ls) = all_after (head_reading l) ls

-- the calls of a tape by its text; none where it has no line, a line has a fault, or the count of calls is not that of
-- its head
abbrev pub tape_reading : List ℕ → Option (List Entry)
tape_reading text = tape_in (lines_of text)

-- ---- calls that a tape can hold

-- that the outcome fits a tape: the count of steps of a short one is a number of 64 bits; others always fit
abbrev pub OutcomeFits : Outcome → Type 0
OutcomeFits Whole = ⊤
OutcomeFits Starved = ⊤
OutcomeFits (Short k) = IsWord k

-- that a call fits a tape: session, command and outcome have numbers of 64 bits, the command can have the outcome
-- (`is_part`), and the line, without LF, is no longer than a line of a tape may be
pub record EntryFits (e : Entry) : Type 0 where
  pub session : IsWord e.session
  pub command : Fits e.command
  pub outcome : OutcomeFits e.outcome
  pub part : is_part e.command e.outcome ≡ true
  pub line : length (compact_text (entry_data e)) ≤ longest_tape_line

-- that each number of the call, in its session, command and outcome, has 64 bits
pub record IsOfWords (e : Entry) : Type 0 where
  pub session : IsWord e.session
  pub command : Fits e.command
  pub outcome : OutcomeFits e.outcome

-- that the line of a call, without its LF, is no longer than a line of a tape may be
abbrev pub HasTapeLine : Entry → Type 0
HasTapeLine e = length (compact_text (entry_data e)) ≤ longest_tape_line

-- that these calls fit a tape: their count has 64 bits, as each call's numbers have, each outcome is one that its
-- command can have, and no line is longer than `longest_tape_line` (`EntryFits`)
pub record TapeFits (es : List Entry) : Type 0 where
  pub few : IsWord (length es)
  pub each : All EntryFits es
