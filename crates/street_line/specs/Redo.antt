-- Lines of a kept text that are done again.
use Rattle.std.specs.Prelude.{◌≡◌, ℕ, ◌+◌, ◌-◌, ◌^◌, ◌<◌, ◌⊎◌, min, List, [], ◌∷◌, ◌++◌, length, Bool, true, false, Option, None, Ok, ⊤}
use Rattle.std.specs.Io.KnownBytes.{Consumes, IsAtEnd}
use Rattle.street_base.specs.declared.command.Command.{Command}
use Rattle.street_base.specs.declared.reply.Reply.{Reply}
use Rattle.street_base.specs.declared.reply.Reply.TheVariants.{Refused, Short, Starved}
use Rattle.street_stream.specs.HandledLines.{Effect}
use Rattle.street_stream.specs.Lines.{cut, lines_of}
use Rattle.street_stream.specs.declared.answer.LineAnswer.{LineAnswer}
use Rattle.street_stream.specs.declared.answer.StopCause.{StopCause}
use Rattle.street_stream.specs.declared.answer.StopCause.TheVariants as causes
use Rattle.street_stream.specs.declared.counted.Counted.{Counted}
use Rattle.street_stream.specs.declared.tally.Tally.{Tally}
use Rattle.street_stream.specs.declared.tally.FaultKind.TheVariants as kind
use Rattle.street_line.specs.declared.redo.RedoneLines.{RedoneLines}
use Rattle.street_line.specs.declared.redo.RedoFault.{RedoFault}
use Rattle.street_line.specs.declared.redo.RedoFault.TheVariants.{Run, BadLine}
use Rattle.street_line.specs.declared.redo.RedoStop.{RedoStop}
use Rattle.street_line.specs.declared.redo.RedoStop.TheVariants as stop
use Rattle.street_line.specs.declared.service.Served.{Served}
use Rattle.street_line.specs.declared.service.Served.TheVariants.{Answered, Full, Unrecorded}
use Rattle.street_line.specs.Runs.{Said, silent, faulty, calls, said}

-- whether a reply tells that the command was done whole, or what it asks was read: it is no refusal, not short and not
-- starved
abbrev pub is_done : Reply → Bool
is_done (Refused refusal) = false
is_done (Short clock short) = false
is_done Starved = false
is_done reply = true

-- whether a command that was served so was refused, or found no place left in a journal; false of one with no answer
abbrev pub is_refused : Served → Bool
is_refused Full = true
is_refused Unrecorded = false
is_refused (Answered (Refused refusal)) = true
is_refused (Answered reply) = false

-- whether a command that was served so was not done whole for lack of memory (short or starved), or has no answer, as
-- its record could not be written
abbrev pub is_short : Served → Bool
is_short Unrecorded = true
is_short (Answered (Short clock short)) = true
is_short (Answered Starved) = true
is_short served = false

-- that `stop` is why a command that was served so is not done again: bad, as it was refused or no place was left; or
-- starved, as it was short, starved or has no answer
abbrev pub IsRedoStop : Served → RedoStop → Type 0
IsRedoStop served stop.Bad = is_refused served ≡ true
IsRedoStop served stop.Starved = is_short served ≡ true

module _ {S : Type 0} (serves : S → Command → Served → S → Type 0) where
  -- that a line that says this was done again, from `old` to `new`: a blank one changes nothing, a command is served,
  -- as `serves` says, and done whole (`is_done`); a faulty line never is done again
  abbrev pub RedoSaid : S → Said → S → Type 0
  RedoSaid old silent new = new ≡ old
  RedoSaid old (faulty f) new = ⊥
  RedoSaid old (calls c) new = (reply : Reply) × serves old c (Answered reply) new × (is_done reply ≡ true)

  -- that a line that says this cannot be done again: it is faulty, and nothing changes, or its command is refused where
  -- it stands or finds no place in a journal (`is_refused`); so never of a blank line
  abbrev pub BadSaid : S → Said → S → Type 0
  BadSaid old silent new = ⊥
  BadSaid old (faulty f) new = new ≡ old
  BadSaid old (calls c) new = (served : Served) × serves old c served new × (is_refused served ≡ true)

  -- that a line that says this was not done again as memory ran out: to read it, with nothing changed, or while its
  -- command was served (short, starved or no answer); so never of a blank line
  abbrev pub StarvedSaid : S → Said → S → Type 0
  StarvedSaid old silent new = ⊥
  StarvedSaid old (faulty f) new = new ≡ old
  StarvedSaid old (calls c) new = (new ≡ old) ⊎ ((served : Served) × serves old c served new × (is_short served ≡ true))

  -- that a line that says this was not done again for this reason: it is bad, faulty or refused (`BadSaid`), or memory
  -- ran out (`StarvedSaid`)
  abbrev pub RedoStopSaid : S → Said → RedoStop → S → Type 0
  RedoStopSaid old what stop.Bad new = BadSaid old what new
  RedoStopSaid old what stop.Starved new = StarvedSaid old what new

  -- that a line was done again, from `old` to `new`, with no reply in its effect, as a handler of lines tells it
  abbrev pub RedoLine : S → List ℕ → Effect → S → Type 0
  RedoLine old line effect new = RedoSaid old (said line) new × (effect.reply ≡ None)

  -- that this line was not done again for this reason: bad, as it is faulty or refused, or memory ran out
  -- (`RedoStopSaid` of what it says)
  abbrev pub RedoStopLine : S → List ℕ → RedoStop → S → Type 0
  RedoStopLine old line why new = RedoStopSaid old (said line) why new

  -- that these lines were done again, one after another, from `old` to `new`: commands whole, blank lines with nothing
  -- changed, none faulty; where there are no lines, nothing changes
  abbrev pub Redoes : S → List (List ℕ) → S → Type 0
  Redoes old [] new = new ≡ old
  Redoes old (l ∷ ls) new = (mid : S) × RedoSaid old (said l) mid × Redoes mid ls new

  -- that the lines of a text behind `before` other lines were done again up to a fault: those before the first bad one,
  -- whose number, from 1, the fault tells; first ones where memory ran out; all ended ones where it came at a read; it
  -- is never of writing
  abbrev pub RedoHalts : S → ℕ → List ℕ → RedoFault → S → Type 0
  RedoHalts old before text (BadLine number) new = (done : List (List ℕ)) × (bad : List ℕ) × (rest : List (List ℕ)) × (mid : S)
      × ((cut text).0 ≡ done ++ bad ∷ rest) × Redoes old done mid × BadSaid mid (said bad) new × (number ≡ before + length done + 1)
  RedoHalts old before text (Run kind.Starved) new = (done : List (List ℕ)) × (rest : List (List ℕ)) × (mid : S)
      × (lines_of text ≡ done ++ rest) × Redoes old done mid
      × ((new ≡ mid) ⊎ ((line : List ℕ) × (more : List (List ℕ)) × (rest ≡ line ∷ more) × StarvedSaid mid (said line) new))
  RedoHalts old before text (Run kind.Read) new = Redoes old (cut text).0 new
  RedoHalts old before text (Run kind.Endless) new = Redoes old (cut text).0 new
  RedoHalts old before text (Run kind.Write) new = ⊥

  -- that a text was read to its end, `unread` to `left` (none where unknown), and its ended lines were done again, from
  -- `start` to `now`; `redo` counts these lines and their bytes, and what stands behind the last LF is not looked at
  pub record RedoDone (start : S) (unread : Option (List ℕ)) (now : S) (left : Option (List ℕ)) (redo : RedoneLines) : Type 0 where
    pub text : List ℕ
    pub read : Consumes unread left text
    pub at_end : IsAtEnd left
    pub done : Redoes start (cut text).0 now
    pub lines : redo.lines ≡ length (cut text).0
    pub bytes : redo.bytes + length (cut text).1 ≡ length text

  -- that a fault ended the redo of a text, read from `unread` to `left` (none where unknown): of what was read, lines
  -- before the fault were done again, from `start` to `now`, as the fault's kind asks (`RedoHalts`)
  pub record RedoBroke (start : S) (unread : Option (List ℕ)) (fault : RedoFault) (now : S) (left : Option (List ℕ)) : Type 0 where
    pub text : List ℕ
    pub read : Consumes unread left text
    pub halts : RedoHalts start 0 text fault now

-- that `fault` is what a redo tells where it ended for this cause: for a bad line the number of lines `before` and
-- those of the tally together, but at most 2^128 - 1; for any other cause that memory ran out
abbrev pub IsFaultOf : ℕ → StopCause RedoStop → Tally → RedoFault → Type 0
IsFaultOf before (causes.Line stop.Bad) tally fault = fault ≡ BadLine (min (before + tally.lines) (2 ^ 128 - 1))
IsFaultOf before (causes.Line stop.Starved) tally fault = fault ≡ Run kind.Starved
IsFaultOf before (causes.Run why) tally fault = fault ≡ Run kind.Starved

-- that the handler's answer to a line has no reply to send: neither a reply nor a fault of making one
abbrev pub IsSilent : LineAnswer → Type 0
IsSilent answer = answer.reply ≡ Ok None

-- that the fault of a redo is of a kind that comes while a line is done: a bad line, or memory that ran out; a fault of
-- reading or writing is not
abbrev pub IsInLine : RedoFault → Type 0
IsInLine (Run kind.Read) = ⊥
IsInLine (Run kind.Endless) = ⊥
IsInLine (Run kind.Starved) = ⊤
IsInLine (Run kind.Write) = ⊥
IsInLine (BadLine line) = ⊤

-- that the fault of a redo has its cause in the reader: a read that failed, or just `reads` reads made, as many as are
-- allowed; of a bad line and of memory no cause is asked, and of writing there is no fault
abbrev pub IsRedoCaused : {R : Type 0} → RedoFault → Counted R → ℕ → Type 0
IsRedoCaused (Run kind.Read) reader reads = 0 < reader.failures
IsRedoCaused (Run kind.Endless) reader reads = reader.calls ≡ reads
IsRedoCaused (Run kind.Starved) reader reads = ⊤
IsRedoCaused (Run kind.Write) reader reads = ⊥
IsRedoCaused (BadLine line) reader reads = ⊤
