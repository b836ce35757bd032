-- Tapes that are read from one counted stream, and what is written to another.
use Rattle.std.specs.Prelude.{ℕ, List, Option}
use Rattle.street_engine.specs.Prelude.{EngineView}
use Rattle.street_stream.specs.declared.counted.Counted.{Counted}
use Rattle.street_stream.specs.declared.tally.Tally.{Tally}
use Rattle.street_tape.specs.declared.fault.TapeFault.{TapeFault}
use Rattle.street_tape.specs.Faults.{ReplaysWhole, ReplayStops}
use Rattle.street_tape.specs.Upgrades.{UpgradesWhole, UpgradeStops}

module _ {D W : Type 0} (remaining : D → Option (List ℕ)) (contents : W → Option (List ℕ)) where
  -- that the reader was read to its end, all calls of its tape are applied to the engine, from nothing loaded to
  -- `view`, their replies are in the writer, and `tally` counts them (`ReplaysWhole`)
  abbrev pub ReplaysAll : Counted D → Counted W → EngineView → Counted D → Counted W → Tally → Type 0
  ReplaysAll reader writer view read written tally =
      ReplaysWhole (remaining reader.stream) (contents writer.stream) view (remaining read.stream) (contents written.stream) tally

  -- that a fault ended a replay from nothing loaded: of what was read of the reader the first calls are applied to the
  -- engine, `view` then, and of their replies the first bytes are in the writer, as `ReplayStops` says
  abbrev pub ReplaysFirst : Counted D → Counted W → EngineView → Counted D → Counted W → TapeFault → Type 0
  ReplaysFirst reader writer view read written fault =
      ReplayStops (remaining reader.stream) (contents writer.stream) view (remaining read.stream) (contents written.stream) fault

  -- that the reader was read to its end, the tape of version 2 with the calls of its tape is in the writer, and `tally`
  -- counts lines, calls and bytes (`UpgradesWhole`)
  abbrev pub UpgradesAll : Counted D → Counted W → Counted D → Counted W → Tally → Type 0
  UpgradesAll reader writer read written tally =
      UpgradesWhole (remaining reader.stream) (contents writer.stream) (remaining read.stream) (contents written.stream) tally

  -- that a fault ended an upgrade: first bytes of the tape of version 2, perhaps all or none, are in the writer; none
  -- unless the reader had been read to its end, and none where its text is no tape or a bad one
  abbrev pub UpgradesFirst : Counted D → Counted W → Counted D → Counted W → TapeFault → Type 0
  UpgradesFirst reader writer read written fault =
      UpgradeStops (remaining reader.stream) (contents writer.stream) (remaining read.stream) (contents written.stream) fault
