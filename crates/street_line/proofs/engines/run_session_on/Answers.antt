use Rattle.std.proofs.lemmas.Result.{IfOk-weaker, IfErr-weaker}
use Rattle.street_line.proofs.FilesAs.{breaks-as, goes-on-as}
use Rattle.street_line.specs.Sinks.{SessionServes}
use Rattle.street_line.proofs.engines.run_session_on.Goals as goal

pub returns-clause-whole : goal.returns-clause-whole
returns-clause-whole g c =
    let s = g.S.ReplySink in
    IfOk-weaker c.serve_on.result _ _ (λ redo on start old stands.
    goes-on-as (SessionServes g.S.StepSink.notes s.stopped s.lets_out) s.answers (s.stands start) (c.stands_on.ensures start) _ _ _ _ redo _ _ _ _ _ on old stands) c.serve_on.ensures.whole

pub returns-clause-broken : goal.returns-clause-broken
returns-clause-broken g c =
    let s = g.S.ReplySink in
    IfErr-weaker c.serve_on.result _ _ (λ fault broke start old stands.
    breaks-as (SessionServes g.S.StepSink.notes s.stopped s.lets_out) s.answers (s.stands start) (c.stands_on.ensures start) _ _ _ _ _ _ _ _ _ _ fault broke old stands) c.serve_on.ensures.broken
