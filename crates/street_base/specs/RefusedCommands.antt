-- What a refused command answers and leaves.
use Rattle.std.specs.Prelude.{◌≡◌, ◌⊎◌, Some}
use Rattle.street_base.specs.declared.command.Command.{Command}
use Rattle.street_base.specs.declared.refusal.Refusal.{Refusal}
use Rattle.street_base.specs.declared.reply.Reply.{Reply}
use Rattle.street_base.specs.declared.reply.Reply.TheVariants.{Refused}
use Rattle.street_base.specs.declared.reply.Outcome.{Outcome}
use Rattle.street_base.specs.declared.reply.Outcome.TheVariants.{Whole, Starved}
use Rattle.street_base.specs.State.{State}
use Rattle.street_base.specs.Machine.{refusal}
use Rattle.street_base.specs.Outcomes.{MayStarveUnder, Answers}

-- that a command with this refusal never changes the state, whatever its reply and outcome
abbrev pub StaysRefused : State → Command → Refusal → Type 0
StaysRefused old c r = refusal old c ≡ Some r → (reply : Reply) (outcome : Outcome) (new : State) → Answers old c reply outcome new → new ≡ old

-- that a command with this refusal, where its outcome is whole, is answered by the refusal
abbrev pub IsToldRefused : State → Command → Refusal → Type 0
IsToldRefused old c r = refusal old c ≡ Some r → (reply : Reply) (new : State) → Answers old c reply Whole new → reply ≡ Refused r

-- that a command with this refusal has the outcome whole; or else starved, and then memory may run out under this
-- refusal, as it may only for a load with a fault
abbrev pub IsWholeRefused : State → Command → Refusal → Type 0
IsWholeRefused old c r = refusal old c ≡ Some r → (reply : Reply) (outcome : Outcome) (new : State)
    → Answers old c reply outcome new → (outcome ≡ Whole) ⊎ ((outcome ≡ Starved) × MayStarveUnder (Some r))
