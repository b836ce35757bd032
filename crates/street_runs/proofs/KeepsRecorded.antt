-- A session that goes on from a file, and the record of its steps, from nothing loaded.
use Rattle.std.proofs.Common.{◌≡◌, ◌∙◌, ℕ, List, [], Option, Some, None, refl, sym, subst}
use Rattle.std.proofs.KnownBytes.{Appends-nil}
use Rattle.std.specs.Io.KnownBytes.{Appends}
use Rattle.street_base.specs.declared.command.Command.{Command}
use Rattle.street_base.specs.Prelude.{State, Traffic, block}
use Rattle.street_engine.specs.Prelude.{EngineView, StandsFor}
use Rattle.street_line.proofs.FilesAs.{begins-as, recovered-as}
use Rattle.street_line.proofs.KeptAs.{kept-part-as, kept-whole-as}
use Rattle.street_line.proofs.RecordedRuns.{none-kept, record-served}
use Rattle.street_line.specs.Engines.{MachineServes}
use Rattle.street_line.specs.Kept.{KeptUpTo, KeptWhole}
use Rattle.street_line.specs.KeptFiles.{BeginBreaks, Recovered}
use Rattle.street_line.specs.Recorded.{HoldsRecord, IsReplyBehind, MachineRecords, StandsRecorded}
use Rattle.street_line.specs.Sinks.{SessionServes, SessionView, StandsWithSink}
use Rattle.street_line.specs.declared.service.Served.{Served}
use Rattle.street_line.specs.declared.redo.RedoneLines.{RedoneLines}
use Rattle.street_line.specs.declared.kept_file.BeginFault.{BeginFault}
use Rattle.street_line.specs.declared.kept_runs.KeptFault.{KeptFault}
use Rattle.street_record.specs.Given.{Adds, IsFresh, WriterView}
use Rattle.street_stream.specs.Lines.{lines_of}
use Rattle.street_stream.specs.declared.counted.Counted.{Counted}
use Rattle.street_runs.specs.KeptRecords.{KeepsRecorded, KeepsRecordedFirst, recorded_from}
use Rattle.street_runs.specs.declared.kept_records.OpenFault.{OpenFault}
use Rattle.street_runs.specs.declared.kept_records.RecordedFault.TheVariants.{Begin, Open, Session}

module _ {K D V W U : Type 0} (held synced : K → Option (List ℕ)) (remaining : D → Option (List ℕ)) (outputs : V → Option (List ℕ)) (contents : W → Option (List ℕ))
    (plain : SessionView U → Command → Served → SessionView U → Type 0) (plain-as : (before : SessionView U) (c : Command) (served : Served) (after : SessionView U)
    → plain before c served after → (old : State) → StandsWithSink before old → (new : State) × MachineServes old c served new × StandsWithSink after new) where
  -- a session that writes a record
  abbrev recorded : SessionView (WriterView W) → Command → Served → SessionView (WriterView W) → Type 0
  recorded = SessionServes (λ (a : WriterView W) (m : Traffic) (b : WriterView W). Adds contents (block m) a b) (λ (w : WriterView W). w.has_failed) (IsReplyBehind contents)

  -- a session with the machine's state, and no step recorded
  begins-at : (start : Option (List ℕ)) (view : SessionView (WriterView W)) (recorder : WriterView W) (m : State) → StandsFor view.engine m → view.sink ≡ Some recorder
      → IsFresh recorder → contents recorder.writer.stream ≡ start → StandsRecorded contents start view (recorded_from m)
  begins-at start view recorder m stands has fresh is =
      record {
        engine = stands;
        writer = recorder;
        written_by = has;
        rests = λ _. fresh.1;
        holds = (fresh.0, subst (λ (s : Option (List ℕ)). Appends s (contents recorder.writer.stream) []) is (Appends-nil (contents recorder.writer.stream)));
      }

  module _ (file : K) (reader : Counted D) (writer : Counted V) (kept : K) (read : Counted D) (written : Counted V) (before : SessionView U) (nothing : StandsWithSink before None) where
    pub begin-broke : (after : SessionView U) (fault : BeginFault) → BeginBreaks plain before (held file) (synced file) after (held kept) (synced kept) fault
        → read ≡ reader → written ≡ writer → (start : Option (List ℕ)) → KeepsRecordedFirst held synced remaining outputs contents start file reader writer kept None read written (Begin fault)
    begin-broke after fault broke same quiet start =
        let machine = begins-as plain MachineServes StandsWithSink plain-as before (held file) (synced file) after (held kept) (synced kept) fault broke None nothing in
        (machine.0, machine.1, same, quiet, refl)

    module _ (mid : SessionView U) (log : Option (List ℕ)) (redo : RedoneLines) (recovered : Recovered plain before (held file) mid log redo) where
      pub open-broke : (fault : OpenFault) → held kept ≡ log → synced kept ≡ held kept → read ≡ reader → written ≡ writer
          → (start : Option (List ℕ)) → KeepsRecordedFirst held synced remaining outputs contents start file reader writer kept None read written (Open fault)
      open-broke fault is stays same quiet start =
          let machine = recovered-as plain MachineServes StandsWithSink plain-as before (held file) mid log redo recovered None nothing in
          (machine.0, redo, subst (λ (l : Option (List ℕ)). Recovered MachineServes None (held file) machine.0 l redo) (sym is) machine.1, stays, same, quiet, refl)

      module _ (start : Option (List ℕ)) (view : SessionView (WriterView W)) (recorder : WriterView W) (engine : view.engine ≡ mid.engine) (has : view.sink ≡ Some recorder) (fresh : IsFresh recorder)
          (is : contents recorder.writer.stream ≡ start) where
        pub session-broke : (after : SessionView (WriterView W)) (out : Option (WriterView W)) → out ≡ after.sink → (fault : KeptFault)
            → KeptUpTo recorded view (remaining reader.stream) log (outputs writer.stream) fault after (remaining read.stream) (held kept) (synced kept) (outputs written.stream)
            → KeepsRecordedFirst held synced remaining outputs contents start file reader writer kept out read written (Session fault)
        session-broke after out same fault part =
            let machine = recovered-as plain MachineServes StandsWithSink plain-as before (held file) mid log redo recovered None nothing in
            let stands = begins-at start view recorder machine.0 (subst (λ (v : EngineView). StandsFor v machine.0) (sym engine) machine.2.2) has fresh is in
            let run = kept-part-as recorded MachineRecords (StandsRecorded contents start) (record-served contents start) view (remaining reader.stream) log (outputs writer.stream) fault after
            (remaining read.stream) (held kept) (synced kept) (outputs written.stream) part (recorded_from machine.0) stands in
            let ends = run.2 in
            (machine.0, log, redo, run.0, ends.writer, machine.1, run.1, same ∙ ends.written_by, ends.holds)

        pub keeps-recorded : (after : SessionView (WriterView W)) (out : Option (WriterView W)) → out ≡ after.sink
            → KeptWhole recorded view (remaining reader.stream) log (outputs writer.stream) after (remaining read.stream) (held kept) (synced kept) (outputs written.stream)
            → KeepsRecorded held synced remaining outputs contents start file reader writer kept out read written redo
        keeps-recorded after out same whole =
            let machine = recovered-as plain MachineServes StandsWithSink plain-as before (held file) mid log redo recovered None nothing in
            let stands = begins-at start view recorder machine.0 (subst (λ (v : EngineView). StandsFor v machine.0) (sym engine) machine.2.2) has fresh is in
            let run = kept-whole-as recorded MachineRecords (StandsRecorded contents start) (record-served contents start) view (remaining reader.stream) log (outputs writer.stream) after
            (remaining read.stream) (held kept) (synced kept) (outputs written.stream) whole (recorded_from machine.0) stands in
            let none = none-kept (recorded_from machine.0) (lines_of run.1.text) run.1.passed.out run.1.passed.kept run.0 refl run.1.passed.served in
            let ends = run.2 in
            (machine.0, log, run.0, ends.writer, machine.1, run.1, same ∙ ends.written_by, subst (λ (begun : Option (List ℕ)). HoldsRecord contents start ends.writer run.0.whole begun) none ends.holds)
