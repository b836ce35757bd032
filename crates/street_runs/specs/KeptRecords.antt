-- What became of a session that goes on from a file, and of the record of its steps.
use Rattle.std.specs.Prelude.{◌≡◌, ℕ, List, [], Option, Some, None}
use Rattle.street_base.specs.Prelude.{State}
use Rattle.street_line.specs.Engines.{MachineServes}
use Rattle.street_line.specs.Kept.{KeptUpTo, KeptWhole}
use Rattle.street_line.specs.KeptFiles.{BeginBreaks, IsBeginCaused, IsRunCaused, Recovered}
use Rattle.street_line.specs.Recorded.{HoldsRecord, MachineRecords, RecordedMachine}
use Rattle.street_line.specs.declared.redo.RedoneLines.{RedoneLines}
use Rattle.street_record.specs.Given.{WriterView}
use Rattle.street_stream.specs.declared.counted.Counted.{Counted}
use Rattle.street_runs.specs.declared.kept_records.OpenFault.{OpenFault}
use Rattle.street_runs.specs.declared.kept_records.RecordedFault.{RecordedFault}
use Rattle.street_runs.specs.declared.kept_records.RecordedFault.TheVariants.{Begin, Open, Session}

-- the recorded machine in state m with an empty record, as a session that goes on from a file begins
abbrev pub recorded_from : State → RecordedMachine
recorded_from m = record { machine = m; whole = []; begun = None }

module _ {K D V : Type 0} (held synced : K → Option (List ℕ)) (remaining : D → Option (List ℕ)) (outputs : V → Option (List ℕ)) where
  module _ {W : Type 0} (contents : W → Option (List ℕ)) where
    -- that the machine did the lines of the kept file again from nothing loaded, counted in `redo`, then served all
    -- lines of the reader: the file keeps them, synced, output is written, and the record has, behind `start`, the
    -- blocks of the steps of the reader's lines alone
    abbrev pub KeepsRecorded : Option (List ℕ) → K → Counted D → Counted V → K → Option (WriterView W) → Counted D → Counted V → RedoneLines → Type 0
    KeepsRecorded start file reader writer kept recorder read written redo = (mid : State) × (log : Option (List ℕ)) × (new : RecordedMachine) × (w : WriterView W)
        × Recovered MachineServes None (held file) mid log redo
        × KeptWhole MachineRecords (recorded_from mid) (remaining reader.stream) log (outputs writer.stream) new (remaining read.stream) (held kept) (synced kept) (outputs written.stream)
        × (recorder ≡ Some w) × HoldsRecord contents start w new.whole None

    -- that a fault ended a kept session with a record: before any line was read (`BeginBreaks`), or as the record could
    -- not be opened, with the file now just its ended lines, synced, both with nothing read, nothing put out and no
    -- record; or in the session (`KeptUpTo`), and the record's stream has taken the blocks of the commands that were
    -- answered behind `start`, and, if one has no answer, first bytes of its blocks
    abbrev pub KeepsRecordedFirst : Option (List ℕ) → K → Counted D → Counted V → K → Option (WriterView W) → Counted D → Counted V → RecordedFault → Type 0
    KeepsRecordedFirst start file reader writer kept recorder read written (Begin fault) = (now : State)
        × BeginBreaks MachineServes None (held file) (synced file) now (held kept) (synced kept) fault × (read ≡ reader) × (written ≡ writer) × (recorder ≡ None)
    KeepsRecordedFirst start file reader writer kept recorder read written (Open fault) = (mid : State) × (redo : RedoneLines)
        × Recovered MachineServes None (held file) mid (held kept) redo × (synced kept ≡ held kept) × (read ≡ reader) × (written ≡ writer) × (recorder ≡ None)
    KeepsRecordedFirst start file reader writer kept recorder read written (Session fault) = (mid : State) × (log : Option (List ℕ)) × (redo : RedoneLines)
        × (new : RecordedMachine) × (w : WriterView W) × Recovered MachineServes None (held file) mid log redo
        × KeptUpTo MachineRecords (recorded_from mid) (remaining reader.stream) log (outputs writer.stream) fault new (remaining read.stream) (held kept) (synced kept) (outputs written.stream)
        × (recorder ≡ Some w) × HoldsRecord contents start w new.whole new.begun

-- that the fault of a kept session with a record has its cause: that of a fault before it went on (`IsBeginCaused`), or
-- of one in it (`IsRunCaused`); of a record that could not be opened, what its opener says (`fails`); of bad lines of
-- the file, and of memory, no cause is asked
abbrev pub IsRecordedCaused : {R K W : Type 0} → (K → Type 0) → (K → Type 0) → (OpenFault → Type 0) → RecordedFault → Counted R → K → Counted W → ℕ → Type 0
IsRecordedCaused has_failed withdrawn fails (Begin fault) reader file writer reads = IsBeginCaused has_failed fault file
IsRecordedCaused has_failed withdrawn fails (Open fault) reader file writer reads = fails fault
IsRecordedCaused has_failed withdrawn fails (Session fault) reader file writer reads = IsRunCaused has_failed withdrawn fault reader file writer reads
