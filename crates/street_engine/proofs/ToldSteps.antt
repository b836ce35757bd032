-- What a sink was told of a command.
use Rattle.std.proofs.Common.{◌≡◌, ℕ, sym, subst, Some, None}
use Rattle.std.specs.List.{FoldsTo}
use Rattle.street_base.specs.declared.command.Command.{Command}
use Rattle.street_base.specs.declared.reply.Reply.{Reply}
use Rattle.street_base.specs.Prelude.{State, Traffic}
use Rattle.street_engine.specs.Prelude.{EngineView, StreetsView, StreetsStandFor, StandsFor, ToldOf, ToldSteps, befores, befores_in, steps_made}
use Rattle.street_engine.proofs.Serves.{at-some}

module _ {K : Type 0} (notes : K → Traffic → K → Type 0) (old new : K) where
  -- a sink that was told of no step is as it was
  pub kept-sink : (x : StreetsView) (k : ℕ) → (m : Traffic) × StreetsStandFor x m → ToldOf notes x k old new → k ≡ 0 → new ≡ old
  kept-sink x k some told none = sym (subst (λ (j : ℕ). FoldsTo notes old (befores j some.0) new) none (told some.0 some.1))

  module _ (command : Command) (reply : Reply) where
    pub told-nothing : steps_made command reply ≡ 0 → new ≡ old → (x : EngineView) → ToldSteps notes x command reply old new
    told-nothing none same x = by none
      where
        by : steps_made command reply ≡ 0 → (m : State) → StandsFor x m → FoldsTo notes old (befores_in m command reply) new
        by none None stands = sym same
        by none (Some m) stands = subst (λ (j : ℕ). FoldsTo notes old (befores j m) new) (sym none) (sym same)

    pub told-streets : (x : StreetsView) (k : ℕ) → ToldOf notes x k old new → k ≡ steps_made command reply → ToldSteps notes (Some x) command reply old new
    told-streets x k told is = at-some x (λ (m : State). FoldsTo notes old (befores_in m command reply) new) (λ m stands. subst (λ (j : ℕ). FoldsTo notes old (befores j m) new) is (told m stands))
