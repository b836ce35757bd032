use Rattle.std.proofs.Common.{None, subst, sym}
use Rattle.std.proofs.lemmas.Result.{IfErr-weaker, IfOk-weaker}
use Rattle.street_engine.specs.Prelude.{EngineView, StandsFor}
use Rattle.street_runs.proofs.kept.keep_by.Goals as goal

pub returns-clause-whole : goal.returns-clause-whole
returns-clause-whole g c =
    let nothing : StandsFor c.new-session.result.engine None = subst (λ (x : EngineView). StandsFor x None) (sym c.new-session.ensures.engine) c.requires.empty in
    IfOk-weaker c.run_session_on.result _ _ (λ redo serves. let got = serves tt None (_, c.new-session.ensures.sink, nothing) in (got.0, got.2)) c.run_session_on.ensures.whole

pub returns-clause-broken : goal.returns-clause-broken
returns-clause-broken g c =
    let nothing : StandsFor c.new-session.result.engine None = subst (λ (x : EngineView). StandsFor x None) (sym c.new-session.ensures.engine) c.requires.empty in
    IfErr-weaker c.run_session_on.result _ _ (λ fault serves. let got = serves tt None (_, c.new-session.ensures.sink, nothing) in (got.0, got.2)) c.run_session_on.ensures.broken
