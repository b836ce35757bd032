use Rattle.std.proofs.Common.{◌∙◌, Some, sym, subst}
use Rattle.street_line.proofs.SinkSessions.{goes-on, stays-stopped}
use Rattle.street_line.specs.Sinks.{SessionServes, SessionView}
use Rattle.street_line.specs.declared.service.Served.TheVariants.{Unrecorded}
use Rattle.street_line.proofs.engines.SessionService.serve.Goals as goal

pub returns-then-has_stopped : goal.returns-then-has_stopped
returns-then-has_stopped g c =
    let s = g.S.ReplySink in
    subst (λ (old : SessionView g.row.S.Denot). SessionServes g.S.StepSink.notes s.stopped s.lets_out old c.args.command Unrecorded (record { engine = c.self.inside.engine; sink = Some c.in-Some.sink })) c.self.view_is
    (stays-stopped g.S.StepSink.notes s.stopped s.lets_out c.self.inside.engine c.self.inside.sink c.in-Some.sink c.args.command (sym c.take.ensures.value ∙ c.in-Some.is)
    (sym c.has_stopped.ensures ∙ c.if-has_stopped.true))

pub returns : goal.returns
returns g c =
    let s = g.S.ReplySink in
    let done = c.apply-reply in
    subst (λ (old : SessionView g.row.S.Denot). SessionServes g.S.StepSink.notes s.stopped s.lets_out old c.args.command c.let_out-served.result (record { engine = done.new.engine; sink = Some c.let_out-served.new.self })) c.self.view_is
    (goes-on g.S.StepSink.notes s.stopped s.lets_out c.self.inside.engine done.new.engine c.self.inside.sink c.in-Some.sink done.result.2 c.let_out-served.new.self c.args.command done.result.0 c.let_out-served.result
    (sym c.take.ensures.value ∙ c.in-Some.is) (sym c.has_stopped.ensures ∙ c.if-has_stopped.false) (done.result.1, done.ensures.serves) done.ensures.told c.let_out-served.ensures)
