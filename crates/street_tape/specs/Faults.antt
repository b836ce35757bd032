-- What a replay leaves.
use Rattle.std.specs.Prelude.{◌≡◌, ℕ, ◌≤◌, ◌⊎◌, List, [], ◌∷◌, ◌++◌, length, take, Option, Some, None, ⊤}
use Rattle.std.specs.Io.KnownBytes.{Appends, Consumes, IsAtEnd}
use Rattle.street_base.specs.declared.command.Command.{Command}
use Rattle.street_base.specs.Prelude.{MayBeShort, short_state, State}
use Rattle.street_desk.specs.declared.journal.Entry.{Entry}
use Rattle.street_desk.specs.History.{state_from, state_of}
use Rattle.street_stream.specs.Faults.{IsAtRead, IsCaused, CountsLines, CountsReplies}
use Rattle.street_stream.specs.Lines.{cut, lines_of}
use Rattle.street_stream.specs.declared.counted.Counted.{Counted}
use Rattle.street_stream.specs.declared.tally.FaultKind.{FaultKind}
use Rattle.street_stream.specs.declared.tally.Tally.{Tally}
use Rattle.street_engine.specs.Prelude.{EngineView, StandsFor}
use Rattle.street_tape.specs.BadTapes.{SaysCalls, IsNoTape, IsBadAt}
use Rattle.street_tape.specs.declared.fault.TapeFault.{TapeFault}
use Rattle.street_tape.specs.declared.fault.TapeFault.TheVariants.{NotTape, BadEntry, Run}
use Rattle.street_tape.specs.Replies.{AreReplayable, output_from, IsTapeTally}
use Rattle.street_tape.specs.Entries.{calls_in, tape_reading}

-- ---- whole replays

-- that the tape was read to its end, `unread` to `left`, all its calls can be replayed from nothing loaded, the engine,
-- `view`, stands for the state after them, their replies are written, `before` to `after` (none where unknown), and the
-- tally counts all
pub record ReplaysWhole (unread before : Option (List ℕ)) (view : EngineView) (left after : Option (List ℕ)) (tally : Tally) : Type 0 where
  pub text : List ℕ
  pub entries : List Entry
  pub read : Consumes unread left text
  pub at_end : IsAtEnd left
  pub says : tape_reading text ≡ Some entries
  pub good : AreReplayable None entries
  pub state : StandsFor view (state_of entries)
  pub written : Appends before after (output_from None entries)
  pub counted : IsTapeTally tally (lines_of text) entries (output_from None entries)

-- ---- faults of a run

-- that the engine stands for state m, or, where c is an advance that may stop short after k steps, for the state after
-- its first k steps; k may be any such
abbrev pub HasBegun : State → Command → EngineView → Type 0
HasBegun m c view = StandsFor view m ⊎ ((k : ℕ) × MayBeShort m c k × StandsFor view (short_state m k))

-- that the engine stands for the state after the calls es from `start`; or, where the first of the further lines says
-- an advance behind `done`, for the state after first steps of that, after which it may stop short
abbrev pub HasBegunNext : State → List (List ℕ) → List Entry → List (List ℕ) → EngineView → Type 0
HasBegunNext start done es [] view = StandsFor view (state_from start es)
HasBegunNext start done es (l ∷ ls) view =
    StandsFor view (state_from start es)
    ⊎ ((e : Entry) × (calls_in (done ++ l ∷ []) ≡ Some (es ++ e ∷ [])) × HasBegun (state_from start es) e.command view)

-- that a fault left a replay behind the lines `done`: their calls are applied, perhaps with first steps of a next
-- advance that `rest` begins with, and the first `tally.bytes` bytes of their replies are written; the tally counts
-- calls and replies
pub record BreaksAfter (start : State) (before : Option (List ℕ)) (done rest : List (List ℕ)) (view : EngineView)
    (after : Option (List ℕ)) (tally : Tally) : Type 0 where
  pub entries : List Entry
  pub says : SaysCalls (AreReplayable start) done entries
  pub state : HasBegunNext start done entries rest view
  pub within : tally.bytes ≤ length (output_from start entries)
  pub written : Appends before after (take tally.bytes (output_from start entries))
  pub calls : tally.calls ≡ length entries
  pub replies : CountsReplies tally (output_from start entries) (length entries)

-- that a fault of the run ended a replay: the calls of the first lines are applied, perhaps with a next advance's first
-- steps, and their first reply bytes written and counted; where it came at a read (`IsAtRead`), all ended lines and
-- whole replies
pub record Breaks (start : State) (before : Option (List ℕ)) (text : List ℕ) (view : EngineView)
    (after : Option (List ℕ)) (kind : FaultKind) (tally : Tally) : Type 0 where
  pub done : List (List ℕ)
  pub rest : List (List ℕ)
  pub first_lines : lines_of text ≡ done ++ rest
  pub broken : BreaksAfter start before done rest view after tally
  -- a line for which memory ran out was taken up, but not done
  pub lines : CountsLines kind tally done
  pub whole : IsAtRead kind → (done ≡ (cut text).0) × (tally.replies ≡ tally.calls)

-- ---- all faults

-- that a fault of a replay left this: nothing applied or written, where the text is no tape; the calls before the first
-- bad line, numbered from 1, applied and replied to, where the tape is bad; else what `Breaks` says: first calls and
-- first bytes
abbrev pub TapeBreaks : Type 0 → State → Option (List ℕ) → List ℕ → EngineView → Option (List ℕ) → TapeFault → Type 0
TapeBreaks at_end start before text view after NotTape = IsNoTape at_end text × StandsFor view start × Appends before after []
TapeBreaks at_end start before text view after (BadEntry line) =
    (es : List Entry) × IsBadAt at_end (AreReplayable start) text es line × StandsFor view (state_from start es) × Appends before after (output_from start es)
TapeBreaks at_end start before text view after (Run fault) = Breaks start before text view after fault.kind fault.tally

-- that a fault ended a replay from nothing loaded: `text` was read of `unread`, with `left` left, and the engine `view`
-- and the output, from `before` to `after` (none where unknown), are what `TapeBreaks` says of that text and fault
pub record ReplayStops (unread before : Option (List ℕ)) (view : EngineView) (left after : Option (List ℕ)) (fault : TapeFault) : Type 0 where
  pub text : List ℕ
  pub read : Consumes unread left text
  pub breaks : TapeBreaks (IsAtEnd left) None before text view after fault

-- that a fault of a replay or an upgrade has its cause counted (`IsCaused`): a failed read with no call of the writer
-- behind it, just `reads` reads, or a failed write; of memory, a text that is no tape, or a bad one, no cause is asked
abbrev pub IsTapeCaused : {R W : Type 0} → TapeFault → Counted R → Counted W → ℕ → Type 0
IsTapeCaused NotTape reader writer reads = ⊤
IsTapeCaused (BadEntry line) reader writer reads = ⊤
IsTapeCaused (Run fault) reader writer reads = IsCaused fault.kind reader writer reads

-- that the fault is one of the run, of reading, writing or memory, and not one of the tape
abbrev pub IsOfRun : TapeFault → Type 0
IsOfRun NotTape = ⊥
IsOfRun (BadEntry line) = ⊥
IsOfRun (Run fault) = ⊤
