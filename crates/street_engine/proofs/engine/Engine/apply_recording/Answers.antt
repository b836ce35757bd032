use Rattle.std.proofs.Common.{subst}
use Rattle.street_engine.specs.Prelude.{EngineView, Serves, ToldSteps}
use Rattle.street_engine.proofs.engine.Engine.apply_recording.Goals as goal

pub returns-clause-serves : goal.returns-clause-serves
returns-clause-serves g c = subst (λ (x : EngineView). Serves x c.args.command.now c.apply.result.0 c.apply.result.1 c.apply.new.state) c.self.view_is c.apply.ensures.serves

pub returns-clause-told : goal.returns-clause-told
returns-clause-told g c = subst (λ (x : EngineView). ToldSteps g.S.StepSink.notes x c.args.command.now c.apply.result.0 c.args.sink c.apply.result.2) c.self.view_is c.apply.ensures.told
