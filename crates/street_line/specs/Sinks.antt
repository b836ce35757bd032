-- A session of an engine, whose sink is told of steps and lets replies out.
use Rattle.std.specs.Prelude.{◌≡◌, ◌⊎◌, Bool, true, false, Option, Some}
use Rattle.street_base.specs.declared.command.Command.{Command}
use Rattle.street_base.specs.declared.reply.Reply.{Reply}
use Rattle.street_base.specs.Prelude.{State, Traffic}
use Rattle.street_engine.specs.Prelude.{EngineView, StandsFor, ToldSteps}
use Rattle.street_line.specs.declared.service.Served.{Served}
use Rattle.street_line.specs.declared.service.Served.TheVariants.{Answered, Unrecorded}
use Rattle.street_line.specs.Engines.{EngineServes}

-- what contracts see of a session: its engine, and the sink that is told of its steps; none where there is no sink
pub record SessionView (S : Type 0) : Type 0 where
  pub engine : EngineView
  pub sink : Option S

module _ {S : Type 0} (notes : S → Traffic → S → Type 0) (stopped : S → Bool) (lets_out : S → Reply → Served → S → Type 0) where
  -- that a session served a command: where its sink had stopped, nothing was done, and there is no answer; else the
  -- engine answered as the machine does, from any state for which it stood, its sink was told of each step that the
  -- command made, and then let the reply out, or not, as `lets_out` says; nothing is said where there is no sink
  abbrev pub SessionServes : SessionView S → Command → Served → SessionView S → Type 0
  SessionServes old c served new = (s : S) → old.sink ≡ Some s → (t : S) × (new.sink ≡ Some t)
      × (((stopped s ≡ true) × (served ≡ Unrecorded) × (new.engine ≡ old.engine) × (t ≡ s))
      ⊎ ((stopped s ≡ false) × (reply : Reply) × (told : S) × EngineServes old.engine c (Answered reply) new.engine
      × ToldSteps notes old.engine c reply s told × lets_out told reply served t))

-- that the session's engine stands for the machine's state, and its sink is there
abbrev pub StandsWithSink : {S : Type 0} → SessionView S → State → Type 0
StandsWithSink {S} view m = (s : S) × (view.sink ≡ Some s) × StandsFor view.engine m
