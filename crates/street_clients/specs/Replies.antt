-- What a replay replies, and which of it was a session's.
use Rattle.std.specs.Prelude.{◌≡◌, ℕ, ◌==◌, ◌<◌, List, [], ◌∷◌, ◌++◌, length, drop, HoldsAt, Bool, true, false, if◌then◌else◌, Option, Some, None, Result, Ok, Err}
use Rattle.std.specs.Io.KnownBytes.{Consumes, IsAtEnd}
use Rattle.std.specs.List.{AllWithin}
use Rattle.street_base.specs.declared.command.Command.TheVariants.{Count}
use Rattle.street_base.specs.declared.reply.Outcome.TheVariants.{Whole}
use Rattle.street_base.specs.Prelude.{reply_to}
use Rattle.street_clients.specs.declared.tapes.Retold.{Retold}
use Rattle.street_clients.specs.declared.tapes.Told.{Told}
use Rattle.street_desk.specs.declared.journal.Entry.{Entry}
use Rattle.street_desk.specs.History.{state_of}
use Rattle.street_stream.specs.Lines.{cut}
use Rattle.street_engine.specs.Prelude.{EngineView}
use Rattle.street_text.specs.declared.fault.LineFault.{LineFault}
use Rattle.street_tape.specs.declared.fault.TapeFault.{TapeFault}
use Rattle.street_tape.specs.Faults.{TapeBreaks}
use Rattle.street_tape.specs.Replies.{AreReplayable, output_from}
use Rattle.street_tape.specs.Entries.{entry_reading, tape_reading}

-- ---- a replay

-- that a replay of this tape, which can be read, was told whole: its calls can be replayed from nothing loaded, the
-- replies are the machine's, and `count` is the machine's reply to a count after them
pub record IsRetold (text : List ℕ) (told : Retold) : Type 0 where
  pub entries : List Entry
  pub says : tape_reading text ≡ Some entries
  pub replayable : AreReplayable None entries
  pub output : told.replies.items ≡ output_from None entries
  pub count : told.count ≡ reply_to (state_of entries) Count Whole

-- that a replay of this text from nothing loaded ended with this fault: `read` was read and `left` left of it, and the
-- engine and the replies, from none on, are what `TapeBreaks` says: for a bad tape or the run, only first calls
pub record IsStopped (text : List ℕ) (fault : TapeFault) : Type 0 where
  pub read : List ℕ
  pub left : Option (List ℕ)
  pub view : EngineView
  pub after : Option (List ℕ)
  pub consumed : Consumes (Some text) left read
  pub breaks : TapeBreaks (IsAtEnd left) None (Some []) read view after fault

-- ---- where lines end

-- that none of the first n bytes of the text, from byte 0, is LF
abbrev pub HasNoEnd : List ℕ → ℕ → Type 0
HasNoEnd text n = AllWithin (λ b. b ≡ 10 → ⊥) text 0 n

-- that the first LF of the text is byte n, counted from 0, which the text has
abbrev pub EndsFirst : List ℕ → ℕ → Type 0
EndsFirst text n = (n < length text) × HoldsAt (λ b. b ≡ 10) text n × HasNoEnd text n

-- ---- a session's replies

-- whether a line of a tape, read so, says a call of this session; false of another session's, or where the line has a
-- fault
abbrev pub is_of : ℕ → Result Entry LineFault → Bool
is_of session (Ok e) = e.session == session
is_of session (Err f) = false

-- of the lines of reply to these lines of calls, one to each and in order, those to the calls of this session, each
-- with its LF; no more where one of the lists has ended
abbrev pub own_lines : ℕ → List (List ℕ) → List (List ℕ) → List ℕ
own_lines session [] replies = []
own_lines session (c ∷ cs) [] = []
own_lines session (c ∷ cs) (r ∷ rs) = if is_of session (entry_reading true c) then (r ++ 10 ∷ []) ++ own_lines session cs rs else own_lines session cs rs

-- of the replies to a tape, those to the calls of this session, each with its LF; the tape's first line says no call
-- and has no reply, and what stands behind a last LF is left out
abbrev pub replies_to : ℕ → List ℕ → List ℕ → List ℕ
replies_to session tape replies = own_lines session (drop 1 (cut tape).0) (cut replies).0

-- that the two callers were told just these replies, each those to its own calls of the tape in `told`: the first as
-- session 0, the second as session 1
abbrev pub Agrees : Told → List ℕ → Type 0
Agrees told replies = (told.first.items ≡ replies_to 0 told.tape.items replies) × (told.second.items ≡ replies_to 1 told.tape.items replies)
