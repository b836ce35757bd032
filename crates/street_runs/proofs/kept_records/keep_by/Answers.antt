use Rattle.std.proofs.Common.{◌∙◌, None, refl, sym, subst}
use Rattle.street_engine.specs.Prelude.{EngineView, StandsFor}
use Rattle.street_line.proofs.SinkSessions.{plain-served}
use Rattle.street_runs.proofs.KeepsRecorded.{begin-broke, keeps-recorded, open-broke, session-broke}
use Rattle.street_runs.proofs.kept_records.keep_by.Goals as goal

pub returns-in-Err-clause-broken : goal.returns-in-Err-clause-broken
returns-in-Err-clause-broken g c =
    let nothing : StandsFor c.new-session.result.engine None = subst (λ (x : EngineView). StandsFor x None) (sym c.new-session.ensures.engine) c.requires.empty in
    begin-broke g.K.WriteAheadLog.held g.K.WriteAheadLog.synced g.D.Read.remaining g.W.Write.contents g.F.Write.contents _ (plain-served _) c.args.file.now c.args.reader.now c.args.writer.now
    c.begin_on.new.file c.args.reader.now c.args.writer.now c.new-session.result (_, c.new-session.ensures.sink, nothing) c.begin_on.new.service c.in-Err.fault c.in-Err.ensures.broken refl refl (g.O.RecordOpener.start c.args.opener.now)

pub returns-in-Err-open-clause-broken : goal.returns-in-Err-open-clause-broken
returns-in-Err-open-clause-broken g c =
    let nothing : StandsFor c.new-session.result.engine None = subst (λ (x : EngineView). StandsFor x None) (sym c.new-session.ensures.engine) c.requires.empty in
    open-broke g.K.WriteAheadLog.held g.K.WriteAheadLog.synced g.D.Read.remaining g.W.Write.contents g.F.Write.contents _ (plain-served _) c.args.file.now c.args.reader.now c.args.writer.now
    c.begin_on.new.file c.args.reader.now c.args.writer.now c.new-session.result (_, c.new-session.ensures.sink, nothing) c.begin_on.new.service (g.K.WriteAheadLog.held c.begin_on.new.file) c.in-Ok.redo c.in-Ok.ensures.recovered
    c.in-Err-open.fault refl c.in-Ok.ensures.stays refl refl (g.O.RecordOpener.start c.args.opener.now)

pub returns-in-Ok-run-clause-whole : goal.returns-in-Ok-run-clause-whole
returns-in-Ok-run-clause-whole g c =
    let nothing : StandsFor c.new-session.result.engine None = subst (λ (x : EngineView). StandsFor x None) (sym c.new-session.ensures.engine) c.requires.empty in
    keeps-recorded g.K.WriteAheadLog.held g.K.WriteAheadLog.synced g.D.Read.remaining g.W.Write.contents g.F.Write.contents _ (plain-served _) c.args.file.now c.args.reader.now c.args.writer.now
    c.run_on-run.new.file c.run_on-run.new.reader c.run_on-run.new.writer c.new-session.result (_, c.new-session.ensures.sink, nothing) c.begin_on.new.service (g.K.WriteAheadLog.held c.begin_on.new.file) c.in-Ok.redo c.in-Ok.ensures.recovered
    (g.O.RecordOpener.start c.args.opener.now) c.new-session-2.result c.in-Ok-open.recorder (c.new-session-2.ensures.engine ∙ c.into_parts-crew.ensures.0) c.new-session-2.ensures.sink
    c.in-Ok-open.ensures.opened.0 c.in-Ok-open.ensures.opened.1 c.run_on-run.new.service c.into_parts-recorder.result.2 c.into_parts-recorder.ensures.1 c.in-Ok-run.ensures.whole

pub returns-in-Err-run-clause-broken : goal.returns-in-Err-run-clause-broken
returns-in-Err-run-clause-broken g c =
    let nothing : StandsFor c.new-session.result.engine None = subst (λ (x : EngineView). StandsFor x None) (sym c.new-session.ensures.engine) c.requires.empty in
    session-broke g.K.WriteAheadLog.held g.K.WriteAheadLog.synced g.D.Read.remaining g.W.Write.contents g.F.Write.contents _ (plain-served _) c.args.file.now c.args.reader.now c.args.writer.now
    c.run_on-run.new.file c.run_on-run.new.reader c.run_on-run.new.writer c.new-session.result (_, c.new-session.ensures.sink, nothing) c.begin_on.new.service (g.K.WriteAheadLog.held c.begin_on.new.file) c.in-Ok.redo c.in-Ok.ensures.recovered
    (g.O.RecordOpener.start c.args.opener.now) c.new-session-2.result c.in-Ok-open.recorder (c.new-session-2.ensures.engine ∙ c.into_parts-crew.ensures.0) c.new-session-2.ensures.sink
    c.in-Ok-open.ensures.opened.0 c.in-Ok-open.ensures.opened.1 c.run_on-run.new.service c.into_parts-recorder.result.2 c.into_parts-recorder.ensures.1 c.in-Err-run.fault c.in-Err-run.ensures.exact
