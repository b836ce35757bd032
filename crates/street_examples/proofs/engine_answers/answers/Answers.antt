use Rattle.std.proofs.Common.{None, rules, subst, sym}
use Rattle.street_engine.specs.Prelude.{EngineView, StandsFor}
use Rattle.street_examples.proofs.engine_answers.answers.Goals as goal

pub returns-in-Ok : goal.returns-in-Ok
returns-in-Ok g c =
    let nothing : StandsFor c.new-session.result.engine None = subst (λ (x : EngineView). StandsFor x None) (sym c.new-session.ensures.engine) c.new-engine.ensures in
    let got = c.in-Ok.ensures.served tt None (_, c.new-session.ensures.sink, nothing) in
    search rules
