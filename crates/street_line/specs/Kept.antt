-- Lines that are served by a session that is kept, and what is kept of them.
use Rattle.std.specs.Prelude.{◌≡◌, ℕ, ◌≤◌, ◌⊎◌, List, [], ◌∷◌, ◌++◌, length, take, Bool, true, false, Option, Some}
use Rattle.std.specs.Io.KnownBytes.{Appends, Consumes, IsAtEnd}
use Rattle.street_base.specs.declared.command.Command.{Command}
use Rattle.street_base.specs.declared.reply.Reply.{Reply}
use Rattle.street_base.specs.declared.reply.Reply.TheVariants.{Loaded, Signalled, Entered, Clock, Short, Closed, Taken, Placed}
use Rattle.street_stream.specs.Faults.{IsCaused, IsCausedByWriting}
use Rattle.street_stream.specs.HandledLines.{Effect, Gives}
use Rattle.street_stream.specs.declared.answer.LineAnswer.{LineAnswer}
use Rattle.street_stream.specs.Lines.{cut, if_any, lines_of}
use Rattle.street_stream.specs.declared.counted.Counted.{Counted}
use Rattle.street_stream.specs.declared.log.KeepFault.{KeepFault}
use Rattle.street_stream.specs.declared.log.KeepFault.TheVariants as keep
use Rattle.street_stream.specs.declared.tally.FaultKind.TheVariants.{Read, Write, Starved, Endless}
use Rattle.street_line.specs.declared.kept_runs.KeptFault.{KeptFault}
use Rattle.street_line.specs.declared.kept_runs.KeptFault.TheVariants.{Run, Log}
use Rattle.street_line.specs.declared.service.Served.{Served}
use Rattle.street_line.specs.declared.service.Served.TheVariants.{Answered, Full, Unrecorded}
use Rattle.street_line.specs.Runs.{Said, silent, faulty, calls, said, served_line}
use Rattle.street_line.specs.ServedLine.{effect_of}
use Rattle.street_text.specs.FaultLines.{fault_line}

-- ---- one line

-- whether a reply is of a kind that tells that a command which may change the state was done whole, even if it changed
-- nothing (an advance of no steps); false of a refusal, of what is only read, of a short advance, and of a starved
-- command
abbrev pub is_change : Reply → Bool
is_change (Loaded links nodes turns) = true
is_change (Signalled cycle) = true
is_change (Entered car) = true
is_change (Clock clock) = true
is_change (Closed closed) = true
is_change (Taken taken) = true
is_change (Placed meter) = true
is_change reply = false

-- whether a reply tells that an advance stopped before its last step; false of any other reply
abbrev pub is_short : Reply → Bool
is_short (Short clock short) = true
is_short reply = false

-- the bytes that the log keeps of a line: where the truth value is true, as its reply tells of a change (`is_change`),
-- the line as it came, with LF; else none
abbrev pub entry_of : Bool → List ℕ → List ℕ
entry_of true line = line ++ 10 ∷ []
entry_of false line = []

-- that `entry` is what the log keeps of a line whose command was served so: the line with LF where its reply tells of a
-- change (`is_change`), else nothing; never so of a short advance or a command with no answer
abbrev pub IsEntry : List ℕ → Served → List ℕ → Type 0
IsEntry line (Answered reply) entry = (is_short reply ≡ false) × (entry ≡ entry_of (is_change reply) line)
IsEntry line Full entry = entry ≡ []
IsEntry line Unrecorded entry = ⊥

-- that what the log keeps of the line, with LF where its reply tells of a change, else nothing (`IsEntry`), was put
-- behind what had been noted before
abbrev pub IsNoted : List ℕ → Served → List ℕ → List ℕ → Type 0
IsNoted line served old new = (entry : List ℕ) × IsEntry line served entry × (new ≡ old ++ entry)

-- that ls are the lines that end in the bytes `got` of the last read, behind the text `earlier`, and `begun` is the line that
-- has begun behind them, if there is one; or, where `got` is empty at the text's end, that ls are the one line without LF
-- that is left of `earlier`, if there is one, and none has begun
abbrev pub IsLast : Option (List ℕ) → List ℕ → List ℕ → List (List ℕ) → List (List ℕ) → Type 0
IsLast left earlier got ls begun = ((ls ≡ (cut ((cut earlier).1 ++ got)).0) × (begun ≡ if_any (cut ((cut earlier).1 ++ got)).1))
    ⊎ ((got ≡ []) × IsAtEnd left × (ls ≡ if_any (cut earlier).1) × (begun ≡ []))

module _ {S : Type 0} (serves : S → Command → Served → S → Type 0) where
  -- that a line that says this was served, a command as `serves` says, with output `out`, and the log keeps `entry` of
  -- it (`IsEntry`); of a blank or faulty line nothing is kept and nothing changes, and a faulty one has its fault as
  -- output
  abbrev pub KeepsSaid : S → Said → List ℕ → List ℕ → List ℕ → S → Type 0
  KeepsSaid old silent line out entry new = (new ≡ old) × (out ≡ []) × (entry ≡ [])
  KeepsSaid old (faulty f) line out entry new = (new ≡ old) × (fault_line f ≡ Some out) × (entry ≡ [])
  KeepsSaid old (calls c) line out entry new = (r : Served) × serves old c r new × (served_line r ≡ Some out) × IsEntry line r entry

  -- that the line was served with this effect, whether it calls a command and its reply, as a handler of lines tells
  -- it, and what the log keeps of it is put behind what is kept so far; `old` and `new` hold state and kept text
  abbrev pub KeepsLine : S × List ℕ → List ℕ → Effect → S × List ℕ → Type 0
  KeepsLine old line effect new = (out : List ℕ) × (entry : List ℕ) × KeepsSaid old.0 (said line) line out entry new.0
      × (effect ≡ effect_of (said line) out) × (new.1 ≡ old.1 ++ entry)

  -- that a line that says `what` was served, the handler's `answer` tells its effect, or that memory ran out for its
  -- reply, and what the log keeps of it is put behind what is kept so far; `old` and `new` hold state and kept text
  abbrev pub AnswersKept : S × List ℕ → Said → List ℕ → LineAnswer → S × List ℕ → Type 0
  AnswersKept old what line answer new = (out : List ℕ) × (entry : List ℕ) × KeepsSaid old.0 what line out entry new.0
      × Gives answer (effect_of what out) × (new.1 ≡ old.1 ++ entry)

  -- ---- lines

  -- that the lines were served one after another, from `old` to `new`: `out` is their output and `kept` what the log
  -- keeps of them, each line's behind those before; where there are no lines, nothing changes
  abbrev pub GoesKept : S → List (List ℕ) → List ℕ → List ℕ → S → Type 0
  GoesKept old [] out kept new = (new ≡ old) × (out ≡ []) × (kept ≡ [])
  GoesKept old (l ∷ ls) out kept new =
      (mid : S) × (first : List ℕ) × (entry : List ℕ) × (rest : List ℕ) × (more : List ℕ) × KeepsSaid old (said l) l first entry mid
      × GoesKept mid ls rest more new × (out ≡ first ++ rest) × (kept ≡ entry ++ more)

  -- that a line that says this has no answer, as memory ran out or its record could not be written: nothing changed, or
  -- its command was served, as `serves` says
  abbrev pub HaltsAt : S → Said → S → Type 0
  HaltsAt old what new = (new ≡ old) ⊎ ((c : Command) × (served : Served) × (what ≡ calls c) × serves old c served new)

  -- that of these lines the first, perhaps all or none, were served, from `old` on, and then memory ran out: `new` is the
  -- state behind them, or what one line more left that has no answer (`HaltsAt`)
  pub record Reaches (old : S) (ls : List (List ℕ)) (new : S) : Type 0 where
    pub done : List (List ℕ)
    pub rest : List (List ℕ)
    pub out : List ℕ
    pub kept : List ℕ
    pub mid : S
    pub first_lines : ls ≡ done ++ rest
    pub served : GoesKept old done out kept mid
    pub ends : (new ≡ mid) ⊎ ((line : List ℕ) × (more : List (List ℕ)) × (rest ≡ line ∷ more) × HaltsAt mid (said line) new)

  -- that these lines were served, `old` to `new`, their whole output is written, `before` to `after` (none where
  -- unknown), and all that the log keeps of them is in the log, `log` to `held`, and synced, as `synced` is then all of
  -- `held`
  pub record Passed (old : S) (log before : Option (List ℕ)) (ls : List (List ℕ)) (new : S) (held synced after : Option (List ℕ)) : Type 0 where
    pub out : List ℕ
    pub kept : List ℕ
    pub served : GoesKept old ls out kept new
    pub written : Appends before after out
    pub holds : Appends log held kept
    pub stays : synced ≡ held

  -- that a fault left this of these lines, and of the line that has begun behind them: where the log failed, all were
  -- served, no reply went out, and first bytes of what it keeps are in it, of which no more are synced; where the writer
  -- failed, all were served, all is kept and synced, and first bytes of the output are written; where memory ran out,
  -- the first were served (`Reaches`), and all else is as it was; at a read nothing was served
  abbrev pub PassStops : S → Option (List ℕ) → Option (List ℕ) → Option (List ℕ) → List (List ℕ) → List (List ℕ) → KeptFault → S → Option (List ℕ) → Option (List ℕ) → Option (List ℕ) → Type 0
  PassStops old log stayed before ls begun Log new held synced after =
      (out : List ℕ) × (kept : List ℕ) × GoesKept old ls out kept new × (after ≡ before)
      × ((sent : ℕ) × (safe : ℕ) × (safe ≤ sent) × Appends log held (take sent kept) × Appends stayed synced (take safe kept))
  PassStops old log stayed before ls begun (Run Write) new held synced after =
      (out : List ℕ) × (kept : List ℕ) × GoesKept old ls out kept new × ((sent : ℕ) × (sent ≤ length out) × Appends before after (take sent out))
      × Appends log held kept × (synced ≡ held)
  PassStops old log stayed before ls begun (Run Starved) new held synced after = (after ≡ before) × (held ≡ log) × (synced ≡ stayed) × Reaches old (ls ++ begun) new
  PassStops old log stayed before ls begun (Run Read) new held synced after = (after ≡ before) × (held ≡ log) × (synced ≡ stayed) × (new ≡ old)
  PassStops old log stayed before ls begun (Run Endless) new held synced after = (after ≡ before) × (held ≡ log) × (synced ≡ stayed) × (new ≡ old)

  -- ---- whole runs

  -- that the reader was read to its end, `unread` to `left`, all lines of its text were served, `start` to `now`, their
  -- output is written, `before` to `after` (none where unknown), and what the log keeps of them is held and synced
  -- (`Passed`)
  pub record KeptWhole (start : S) (unread log before : Option (List ℕ)) (now : S) (left held synced after : Option (List ℕ)) : Type 0 where
    pub text : List ℕ
    pub read : Consumes unread left text
    pub at_end : IsAtEnd left
    pub passed : Passed start log before (lines_of text) now held synced after

  -- that a fault ended the run in state `now`: all lines that ended before the last read were served, their output is
  -- written and their log synced (`Passed`); what is left of the lines of the last read, or of the last line without LF,
  -- `PassStops` says
  pub record KeptUpTo (start : S) (unread log before : Option (List ℕ)) (fault : KeptFault) (now : S) (left held synced after : Option (List ℕ)) : Type 0 where
    pub earlier : List ℕ
    pub got : List ℕ
    pub last : List (List ℕ)
    pub begun : List (List ℕ)
    pub mid : S
    pub owed : Option (List ℕ)
    pub told : Option (List ℕ)
    pub read : Consumes unread left (earlier ++ got)
    pub is_last : IsLast left earlier got last begun
    pub passed : Passed start log before (cut earlier).0 mid owed owed told
    pub stops : PassStops mid owed owed told last begun fault now held synced after

  -- that of the text that was read the first lines, perhaps all or none, were served, first bytes of their output are
  -- written, and all that the log keeps of these lines is in the log and synced, perhaps with more behind it
  pub record KeptFirst (start : S) (unread log before : Option (List ℕ)) (left held synced after : Option (List ℕ)) : Type 0 where
    pub text : List ℕ
    pub done : List (List ℕ)
    pub rest : List (List ℕ)
    pub out : List ℕ
    pub kept : List ℕ
    pub mid : S
    pub sent : ℕ
    pub read : Consumes unread left text
    pub first_lines : lines_of text ≡ done ++ rest
    pub served : GoesKept start done out kept mid
    pub within : sent ≤ length out
    pub written : Appends before after (take sent out)
    pub holds : (more : List ℕ) × Appends log held (kept ++ more)
    pub stays : (more : List ℕ) × Appends log synced (kept ++ more)

-- ---- faults

-- the fault of a kept session where keeping failed: that of the log, or of writing the output
abbrev pub fault_of : KeepFault → KeptFault
fault_of keep.Log = Log
fault_of keep.Output = Run Write

-- that a fault which came while nothing was read has its cause: the log has failed, or a call of the writer failed or
-- took no byte; of lack of memory no cause is asked, and a fault of reading never comes
abbrev pub IsPassCaused : {L W : Type 0} → (L → Type 0) → KeptFault → L → Counted W → Type 0
IsPassCaused has_failed (Run kind) log writer = IsCausedByWriting kind writer
IsPassCaused has_failed Log log writer = has_failed log

-- that the fault of a kept session has its cause: the log has failed; or reader or writer counted a failed read with no
-- call of the writer behind it, just `reads` reads, or a failed write (`IsCaused`); of lack of memory no cause is asked
abbrev pub IsKeptCaused : {R L W : Type 0} → (L → Type 0) → KeptFault → Counted R → L → Counted W → ℕ → Type 0
IsKeptCaused has_failed (Run kind) reader log writer reads = IsCaused kind reader writer reads
IsKeptCaused has_failed Log reader log writer reads = has_failed log
