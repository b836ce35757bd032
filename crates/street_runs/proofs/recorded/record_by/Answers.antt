use Rattle.std.proofs.Common.{None, subst, sym}
use Rattle.std.proofs.lemmas.Result.{IfErr-weaker, IfOk-weaker}
use Rattle.street_engine.specs.Prelude.{EngineView, StandsFor}
use Rattle.street_runs.proofs.Recording.{all-recorded, first-recorded}
use Rattle.street_runs.proofs.recorded.record_by.Goals as goal

pub returns-clause-served : goal.returns-clause-served
returns-clause-served g c =
    let nothing : StandsFor c.new-session.result.engine None = subst (λ (x : EngineView). StandsFor x None) (sym c.new-session.ensures.engine) c.requires.empty in
    IfOk-weaker c.run_session-run.result _ _ (λ tally serves.
    all-recorded g.F.Write.contents g.D.Read.remaining g.W.Write.contents c.new-session.result c.run_session-run.new.session c.args.recorder c.into_parts-recorder.result.2
    nothing c.new-session.ensures.sink c.requires.recorder c.into_parts-recorder.ensures.1 c.args.reader.now c.run_session-run.new.reader c.args.writer.now c.run_session-run.new.writer tally serves) c.run_session-run.ensures.served

pub returns-clause-broken : goal.returns-clause-broken
returns-clause-broken g c =
    let nothing : StandsFor c.new-session.result.engine None = subst (λ (x : EngineView). StandsFor x None) (sym c.new-session.ensures.engine) c.requires.empty in
    IfErr-weaker c.run_session-run.result _ _ (λ fault serves.
    first-recorded g.F.Write.contents g.D.Read.remaining g.W.Write.contents c.new-session.result c.run_session-run.new.session c.args.recorder c.into_parts-recorder.result.2
    nothing c.new-session.ensures.sink c.requires.recorder c.into_parts-recorder.ensures.1 c.args.reader.now c.run_session-run.new.reader c.args.writer.now c.run_session-run.new.writer fault serves) c.run_session-run.ensures.broken
