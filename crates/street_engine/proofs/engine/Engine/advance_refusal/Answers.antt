use Rattle.std.proofs.Common.{◌≡◌, refl, sym, ◌∙◌, subst, Some}
use Rattle.street_base.specs.declared.command.Command.TheVariants.{Advance}
use Rattle.street_base.specs.declared.refusal.Refusal.TheVariants.{NotLoaded}
use Rattle.street_base.specs.Prelude.{State, refusal}
use Rattle.street_engine.specs.Prelude.{EngineView, StandsFor}
use Rattle.street_engine.proofs.Serves.{at-none, at-some}
use Rattle.street_engine.proofs.engine.Engine.advance_refusal.Goals as goal

pub returns-in-Some : goal.returns-in-Some
returns-in-Some g c = λ m stands.
    at-some c.in-Some.streets (λ (m : State). c.advance_refusal.result ≡ refusal m (Advance c.args.steps)) c.advance_refusal.ensures.refusal m
    (subst (λ (x : EngineView). StandsFor x m) (sym c.self.view_is ∙ c.in-Some.is) stands)

pub returns-in-None : goal.returns-in-None
returns-in-None g c = λ m stands.
    at-none (λ (m : State). Some NotLoaded ≡ refusal m (Advance c.args.steps)) refl m
    (subst (λ (x : EngineView). StandsFor x m) (sym c.self.view_is ∙ c.in-None.is) stands)
