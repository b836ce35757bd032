use Rattle.std.proofs.lemmas.Result.{IfOk-weaker, IfErr-weaker}
use Rattle.street_line.proofs.EngineRuns.{part-as, whole-as}
use Rattle.street_line.specs.Sinks.{SessionServes}
use Rattle.street_line.proofs.engines.run_session.Goals as goal

pub returns-clause-served : goal.returns-clause-served
returns-clause-served g c =
    let s = g.S.ReplySink in
    IfOk-weaker c.run_lines.result _ _ (λ tally run start old stands.
    whole-as (SessionServes g.S.StepSink.notes s.stopped s.lets_out) s.answers (s.stands start) (c.stands_on.ensures start) _ _ _ _ _ _ tally run old stands) c.run_lines.ensures.runs.served

pub returns-clause-broken : goal.returns-clause-broken
returns-clause-broken g c =
    let s = g.S.ReplySink in
    IfErr-weaker c.run_lines.result _ _ (λ fault run start old stands.
    part-as (SessionServes g.S.StepSink.notes s.stopped s.lets_out) s.answers (s.stands start) (c.stands_on.ensures start) _ _ _ _ _ _ fault run old stands) c.run_lines.ensures.runs.broken
