-- A replay as a handler of lines.
-- Its state is what is known of the tape, and the engine.
use Rattle.std.specs.Prelude.{◌≡◌, ℕ, ◌+◌, ◌⊎◌, List, Option, Some, None, true, false, ⊤}
use Rattle.street_base.specs.declared.command.Command.{Command}
use Rattle.street_base.specs.declared.command.Command.TheVariants.{Advance}
use Rattle.street_base.specs.declared.reply.Outcome.{Outcome}
use Rattle.street_base.specs.declared.reply.Outcome.TheVariants.{Whole}
use Rattle.street_base.specs.declared.reply.Reply.{Reply}
use Rattle.street_base.specs.Prelude.{reply_to, state_after, State}
use Rattle.street_desk.specs.declared.journal.Entry.{Entry}
use Rattle.street_stream.specs.HandledLines.{Effect}
use Rattle.street_stream.specs.declared.answer.StopCause.{StopCause}
use Rattle.street_stream.specs.declared.answer.StopCause.TheVariants as cause
use Rattle.street_stream.specs.declared.tally.FaultKind.TheVariants as kind
use Rattle.street_stream.specs.declared.tally.Tally.{Tally}
use Rattle.street_engine.specs.Prelude.{EngineView, StandsFor}
use Rattle.street_text.specs.ReplyLines.{reply_line}
use Rattle.street_tape.specs.Faults.{HasBegun}
use Rattle.street_tape.specs.Replies.{IsReplayable, clock_in}
use Rattle.street_tape.specs.declared.fault.TapeFault.{TapeFault}
use Rattle.street_tape.specs.declared.fault.TapeFault.TheVariants as fault
use Rattle.street_tape.specs.TapeLines.{Takes, Refuses}
use Rattle.street_tape.specs.Entries.{is_whole}
use Rattle.street_tape.specs.declared.head.TapeHead.{TapeHead}
use Rattle.street_tape.specs.declared.tape.Stop.{Stop}
use Rattle.street_tape.specs.declared.tape.Stop.TheVariants.{NotTape, BadEntry, Starved}

-- the effect of a line of a tape that says no call: it is no call and has no reply
abbrev pub silent : Effect
silent = record { is_call = false; reply = None }

-- that the call, if there is one, can be replayed and was applied, from `old` to `new`, for any state for which the
-- engine stood, and the effect is a call with the machine's reply; with no call nothing has changed, and the effect is
-- no call and has no reply
abbrev pub Applies : EngineView → Option Entry → Effect → EngineView → Type 0
Applies old None effect new = (new ≡ old) × (effect ≡ silent)
Applies old (Some e) effect new =
    (effect.is_call ≡ true) × ((m : State) → StandsFor old m → IsReplayable m e.command e.outcome
    × (effect.reply ≡ Some (reply_line (reply_to m e.command e.outcome))) × StandsFor new (state_after m e.command e.outcome))

-- that the next line of a tape was replayed: the first line gives the head, with no reply; a further line says a call,
-- which was applied to the engine and replied to as the machine does; `old` and `new` hold head and engine
abbrev pub ReplaysLine : Option TapeHead × EngineView → List ℕ → Effect → Option TapeHead × EngineView → Type 0
ReplaysLine old line effect new = (call : Option Entry) × Takes old.0 line call new.0 × Applies old.1 call effect new.1

-- that, for any state for which the engine stood, this call can be replayed there, the reply is the machine's, and the
-- engine stands for the state after it
abbrev pub CallReplays : EngineView → Command → Outcome → Reply → EngineView → Type 0
CallReplays before c o reply after =
    (m : State) → StandsFor before m → IsReplayable m c o × (reply ≡ reply_to m c o) × StandsFor after (state_after m c o)

-- that, for any state for which the engine stood, it stands for the state after a whole advance of so many steps, and
-- `clock` is the clock of the machine's reply, or none where that tells none, as for a refusal
abbrev pub AdvanceGoes : EngineView → ℕ → Option ℕ → EngineView → Type 0
AdvanceGoes before steps clock after =
    (m : State) → StandsFor before m → (clock ≡ clock_in (reply_to m (Advance steps) Whole)) × StandsFor after (state_after m (Advance steps) Whole)

-- that a call was not replayed from state m for this reason: a bad entry, as it cannot be, and the engine still stands
-- for m; or memory ran out, perhaps behind first steps of an advance; never that there is no tape
abbrev pub CallStops : State → Command → Outcome → EngineView → Stop → Type 0
CallStops m c o view NotTape = ⊥
CallStops m c o view BadEntry = (IsReplayable m c o → ⊥) × StandsFor view m
CallStops m c o view Starved = HasBegun m c view

-- that a replay stopped at this line: the line was not taken (`Refuses`), and the engine is as it was; or its call was
-- not replayed, as it cannot be or memory ran out, and the engine is as `CallStops` says; of the head then nothing is
-- said
abbrev pub StopsLine : Option TapeHead × EngineView → List ℕ → Stop → Option TapeHead × EngineView → Type 0
StopsLine old line stop new =
    (Refuses old.0 line stop × (new.1 ≡ old.1))
    ⊎ ((e : Entry) × (rest : Option TapeHead) × Takes old.0 line (Some e) rest × ((m : State) → StandsFor old.1 m → CallStops m e.command e.outcome new.1 stop))

-- the fault of a replay that ended for this cause, with the tally so far: one of the run with kind and tally; that the
-- text is no tape; or, of a bad entry, the tally's count of lines as its number
abbrev pub fault_of : StopCause Stop → Tally → TapeFault
fault_of (cause.Run kind) tally = fault.Run (record { kind = kind; tally = tally })
fault_of (cause.Line NotTape) tally = fault.NotTape
fault_of (cause.Line BadEntry) tally = fault.BadEntry tally.lines
fault_of (cause.Line Starved) tally = fault.Run (record { kind = kind.Starved; tally = tally })

-- that this is the fault of a tape that ended too early: with no line at all, no tape; with fewer calls than its head
-- tells, a bad entry at the line behind the last; so never where the tape may end there
abbrev pub Misses : Option TapeHead → Tally → TapeFault → Type 0
Misses None tally fault.NotTape = ⊤
Misses (Some rest) tally (fault.BadEntry line) = (is_whole rest 0 ≡ false) × (line ≡ tally.lines + 1)
Misses rest tally other = ⊥
