-- A run with a record, from nothing loaded.
use Rattle.std.proofs.Common.{◌≡◌, ◌∙◌, ℕ, List, Option, Some, None, refl, subst}
use Rattle.std.proofs.KnownBytes.{Appends-nil}
use Rattle.street_engine.specs.Prelude.{StandsFor}
use Rattle.street_line.proofs.RecordedRuns.{none-left}
use Rattle.street_line.specs.Recorded.{HoldsRecord, MachineRecords, MachineRecordsAll, MachineRecordsFirst, StandsRecorded, no_steps}
use Rattle.street_line.specs.Sinks.{SessionView}
use Rattle.street_line.specs.Streams.{ServesAllAs, ServesFirstAs}
use Rattle.street_record.specs.Given.{IsFresh, WriterView}
use Rattle.street_stream.specs.Lines.{lines_of}
use Rattle.street_stream.specs.declared.counted.Counted.{Counted}
use Rattle.street_stream.specs.declared.tally.RunFault.{RunFault}
use Rattle.street_stream.specs.declared.tally.Tally.{Tally}

module _ {W D V : Type 0} (contents : W → Option (List ℕ)) (remaining : D → Option (List ℕ)) (outputs : V → Option (List ℕ)) where
  module _ (before after : SessionView (WriterView W)) (recorder : WriterView W) (kept : Option (WriterView W)) (nothing : StandsFor before.engine None) (has : before.sink ≡ Some recorder)
      (fresh : IsFresh recorder) (same : kept ≡ after.sink) (reader read : Counted D) (writer written : Counted V) where
    -- a session that has made no step
    begins : StandsRecorded contents (contents recorder.writer.stream) before no_steps
    begins = record { engine = nothing; writer = recorder; written_by = has; rests = λ _. fresh.1; holds = (fresh.0, Appends-nil (contents recorder.writer.stream)) }

    pub all-recorded : (tally : Tally) → ServesAllAs MachineRecords (StandsRecorded contents) remaining outputs before reader writer after read written tally
        → MachineRecordsAll contents remaining outputs (contents recorder.writer.stream) reader writer kept read written tally
    all-recorded tally serves =
        let got = serves (contents recorder.writer.stream) no_steps begins in
        let none = none-left no_steps (lines_of got.2.text) got.2.out got.0 refl got.2.served in (
          got.0,
          got.1.writer,
          same ∙ got.1.written_by,
          none,
          subst (λ (begun : Option (List ℕ)). HoldsRecord contents (contents recorder.writer.stream) got.1.writer got.0.whole begun) none got.1.holds,
          got.2,
        )

    pub first-recorded : (fault : RunFault) → ServesFirstAs MachineRecords (StandsRecorded contents) remaining outputs before reader writer after read written fault
        → MachineRecordsFirst contents remaining outputs (contents recorder.writer.stream) reader writer kept read written fault
    first-recorded fault serves =
        let got = serves (contents recorder.writer.stream) no_steps begins in
        (got.0, got.1.writer, same ∙ got.1.written_by, got.1.holds, got.2)
