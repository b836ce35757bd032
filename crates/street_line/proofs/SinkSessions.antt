-- A session whose sink is told of steps and lets replies out, and one whose sink lets each reply out.
use Rattle.std.proofs.Common.{◌≡◌, ◌∙◌, ◌⊎◌, inl, inr, Bool, true, false, true≢false, Option, Some, refl, sym, subst}
use Rattle.street_base.specs.declared.command.Command.{Command}
use Rattle.street_base.specs.declared.reply.Reply.{Reply}
use Rattle.street_base.specs.Prelude.{State, Traffic}
use Rattle.street_engine.specs.Prelude.{EngineView, ToldSteps}
use Rattle.street_line.proofs.EngineRuns.{served-machine}
use Rattle.street_line.specs.Engines.{EngineServes, MachineServes}
use Rattle.street_line.specs.Sinks.{SessionServes, SessionView, StandsWithSink}
use Rattle.street_line.specs.declared.service.Served.{Served}
use Rattle.street_line.specs.declared.service.Served.TheVariants.{Answered, Unrecorded}

some-same : {S : Type 0} (a b : S) → Some a ≡ Some b → a ≡ b
some-same a b e = cc

module _ {S : Type 0} (notes : S → Traffic → S → Type 0) (stopped : S → Bool) (lets_out : S → Reply → Served → S → Type 0) where
  -- where the sink had stopped nothing is done
  pub stays-stopped : (engine : EngineView) (had : Option S) (taken : S) (c : Command) → had ≡ Some taken → stopped taken ≡ true
      → SessionServes notes stopped lets_out (record { engine = engine; sink = had }) c Unrecorded (record { engine = engine; sink = Some taken })
  stays-stopped engine had taken c has stops s is =
      let same : taken ≡ s = some-same taken s (sym has ∙ is) in
      (taken, refl, inl (subst (λ (x : S). stopped x ≡ true) same stops, refl, refl, same))

  -- else a command is done
  pub goes-on : (old new : EngineView) (had : Option S) (taken told left : S) (c : Command) (reply : Reply) (served : Served) → had ≡ Some taken → stopped taken ≡ false
      → EngineServes old c (Answered reply) new → ToldSteps notes old c reply taken told → lets_out told reply served left
      → SessionServes notes stopped lets_out (record { engine = old; sink = had }) c served (record { engine = new; sink = Some left })
  goes-on old new had taken told left c reply served has goes serves steps out s is =
      let same : taken ≡ s = some-same taken s (sym has ∙ is) in
      (left, refl, inr (subst (λ (x : S). stopped x ≡ false) same goes, reply, told, serves, subst (λ (x : S). ToldSteps notes old c reply x told) same steps, out))

-- a sink that never stops and lets each reply out
module _ {S : Type 0} (notes : S → Traffic → S → Type 0) where
  out-as : (before after : SessionView S) (c : Command) (served : Served) (old : State) → StandsWithSink before old → (s t : S) → after.sink ≡ Some t
      → ((false ≡ true) × (served ≡ Unrecorded) × (after.engine ≡ before.engine) × (t ≡ s))
      ⊎ ((false ≡ false) × (reply : Reply) × (told : S) × EngineServes before.engine c (Answered reply) after.engine × ToldSteps notes before.engine c reply s told × (served ≡ Answered reply))
      → (new : State) × MachineServes old c served new × StandsWithSink after new
  out-as before after c served old stands s t is (inl (stops, none, same, kept)) = absurd (true≢false (sym stops))
  out-as before after c served old stands s t is (inr (goes, reply, told, serves, steps, out)) =
      let step = served-machine before.engine c (Answered reply) after.engine serves old stands.2 in
      (step.0, subst (λ (r : Served). MachineServes old c r step.0) (sym out) step.1, (t, is, step.2))

  pub plain-served : (before : SessionView S) (c : Command) (served : Served) (after : SessionView S)
      → SessionServes notes (λ s. false) (λ old reply served new. served ≡ Answered reply) before c served after
      → (old : State) → StandsWithSink before old → (new : State) × MachineServes old c served new × StandsWithSink after new
  plain-served before c served after h old stands =
      let got = h stands.0 stands.1 in
      out-as before after c served old stands stands.0 got.0 got.1 got.2
