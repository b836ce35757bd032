-- A replay and its count.
use Rattle.std.specs.Prelude.{◌≡◌, ℕ, ◌⊎◌, List, ◌++◌, Option, Some, None}
use Rattle.std.specs.Io.KnownBytes.{Appends, Consumes, IsAtEnd}
use Rattle.street_base.specs.declared.command.Command.TheVariants.{Count}
use Rattle.street_base.specs.declared.reply.Outcome.TheVariants.{Whole}
use Rattle.street_base.specs.Prelude.{reply_to}
use Rattle.street_desk.specs.declared.journal.Entry.{Entry}
use Rattle.street_desk.specs.History.{state_of}
use Rattle.street_engine.specs.Prelude.{EngineView}
use Rattle.street_stream.specs.declared.counted.Counted.{Counted}
use Rattle.street_tape.specs.declared.fault.TapeFault.{TapeFault}
use Rattle.street_tape.specs.Entries.{tape_reading}
use Rattle.street_tape.specs.Faults.{ReplayStops, IsOfRun}
use Rattle.street_tape.specs.Replies.{AreReplayable, output_from}
use Rattle.street_text.specs.ReplyLines.{reply_line}
use Rattle.street_runs.specs.Outputs.{IsBegun}

-- the line, with LF, that answers a count after these calls, from nothing loaded on
abbrev pub count_line : List Entry → List ℕ
count_line entries = reply_line (reply_to (state_of entries) Count Whole)

-- that `unread` was read to its end, which left `left`, as the tape of these calls, which can be replayed from nothing
-- loaded
pub record ReadsTape (unread left : Option (List ℕ)) (entries : List Entry) : Type 0 where
  pub text : List ℕ
  pub read : Consumes unread left text
  pub at_end : IsAtEnd left
  pub says : tape_reading text ≡ Some entries
  pub good : AreReplayable None entries

-- that a whole tape, whose calls can be replayed, was read, `unread` to `left`, and the replies to its calls and then
-- the reply to a count behind them were written, `before` to `after` (none where unknown)
abbrev pub ReplaysCounted : Option (List ℕ) → Option (List ℕ) → Option (List ℕ) → Option (List ℕ) → Type 0
ReplaysCounted unread before left after =
    (entries : List Entry) × ReadsTape unread left entries × Appends before after (output_from None entries ++ count_line entries)

-- that a whole tape was read and the replies to its calls are written, and first bytes of the line of the count behind
-- them, perhaps all or none, `before` to `after` (none where unknown), where a fault of the run (`IsOfRun`) ended it
abbrev pub CountStops : Option (List ℕ) → Option (List ℕ) → Option (List ℕ) → Option (List ℕ) → TapeFault → Type 0
CountStops unread before left after fault =
    (entries : List Entry) × ReadsTape unread left entries × IsOfRun fault
    × (mid : Option (List ℕ)) × Appends before mid (output_from None entries) × IsBegun mid after (count_line entries)

-- that a fault ended a replay with its count: in the replay, with first calls applied to some engine and first bytes of
-- replies (`ReplayStops`); or behind all replies, at the count's line, of which first bytes are written (`CountStops`)
abbrev pub CountedStops : Option (List ℕ) → Option (List ℕ) → Option (List ℕ) → Option (List ℕ) → TapeFault → Type 0
CountedStops unread before left after fault =
    ((view : EngineView) × ReplayStops unread before view left after fault) ⊎ CountStops unread before left after fault

-- a replay and its count, from one counted stream to another
module _ {D W : Type 0} (remaining : D → Option (List ℕ)) (contents : W → Option (List ℕ)) where
  -- that the tape in the reader was read whole and replayed, and the replies and then the count's line are in the
  -- writer
  abbrev pub ReplaysAndCounts : Counted D → Counted W → Counted D → Counted W → Type 0
  ReplaysAndCounts reader writer read written =
      ReplaysCounted (remaining reader.stream) (contents writer.stream) (remaining read.stream) (contents written.stream)

  -- that a fault ended the replay of the tape in the reader, with first bytes of its replies in the writer, or the
  -- writing of the count's line behind all of them, with first bytes of that (`CountedStops`)
  abbrev pub ReplayOrCountStops : Counted D → Counted W → Counted D → Counted W → TapeFault → Type 0
  ReplayOrCountStops reader writer read written fault =
      CountedStops (remaining reader.stream) (contents writer.stream) (remaining read.stream) (contents written.stream) fault
