-- Steps.
use Rattle.std.proofs.Common.{◌≡◌, ℕ, ◌+◌, ◌<◌, ◌≤◌, refl, sym, ◌∙◌, ap, subst, arith, Option, Some, None}
use Rattle.std.proofs.lemmas.Bool.{lt-ltb, le-ltb}
use Rattle.street_base.specs.declared.command.Command.TheVariants.{Advance}
use Rattle.street_base.specs.declared.refusal.Refusal.{Refusal}
use Rattle.street_base.specs.declared.refusal.Refusal.TheVariants.{BadCount, ClockEnd}
use Rattle.street_base.specs.declared.reply.Reply.TheVariants.{Clock, Refused, Starved as StarvedReply, Short as ShortReply}
use Rattle.street_base.specs.declared.reply.Outcome.TheVariants.{Whole, Starved, Short}
use Rattle.street_base.specs.Prelude.{most_steps, last_clock, Traffic, State, steps, advance_refusal, Answers}
use Rattle.street_engine.specs.Prelude.{StreetsView, StreetsStandFor, StreetsGo, StandsFor, Serves}
use Rattle.street_engine.proofs.Serves.{at-some, some-stands, same-clock, streets-refused, streets-starved, streets-done}

-- ---- what is refused

pub too-many-steps : (n : ℕ) (m : Traffic) → most_steps < n → Some BadCount ≡ advance_refusal n m
too-many-steps n m more = let e = lt-ltb most_steps n more in rw e refl

module _ (n : ℕ) (m : Traffic) (few : n ≤ most_steps) where
  pub past-the-end : last_clock < m.clock + n → Some ClockEnd ≡ advance_refusal n m
  past-the-end past =
      let a = le-ltb most_steps n few in
      let b = lt-ltb last_clock (m.clock + n) past in
      rw (a, b) refl

  pub in-time : m.clock + n ≤ last_clock → None ≡ advance_refusal n m
  in-time before =
      let a = le-ltb most_steps n few in
      let b = le-ltb last_clock (m.clock + n) before in
      rw (a, b) refl

-- ---- the command

module _ (s : StreetsView) (n : ℕ) (told : Option Refusal) (told_is : (m : Traffic) → StreetsStandFor s m → told ≡ advance_refusal n m) where
  pub advance-refused : (q : Refusal) → told ≡ Some q → Serves (Some s) (Advance n) (Refused q) Whole (Some s)
  advance-refused q is = streets-refused s (Advance n) q (λ m stands. sym (told_is m stands) ∙ is)

  module _ (none : told ≡ None) where
    accepted : (m : Traffic) → StreetsStandFor s m → advance_refusal n m ≡ None
    accepted m stands = sym (told_is m stands) ∙ none

    pub all-made : (t : StreetsView) (k clock : ℕ) → k ≡ n → clock ≡ s.clock + k → StreetsGo (steps k) s t → Serves (Some s) (Advance n) (Clock clock) Whole (Some t)
    all-made t k clock all after goes = streets-done s (Advance n) t (Clock clock) (steps n) (λ m. refl) (subst (λ j. StreetsGo (steps j) s t) all goes)
        (λ m stands. (accepted m stands, ap Clock (omega (arith, all, after, same-clock s m stands))))

    pub none-made : (t : StreetsView) (k : ℕ) → k ≡ 0 → 0 < n → StreetsGo (steps k) s t → Serves (Some s) (Advance n) StarvedReply Starved (Some t)
    none-made t k none some goes = streets-starved s (Advance n) t (λ m stands. (some, accepted m stands)) (subst (λ j. StreetsGo (steps j) s t) none goes)

    pub some-made : (t : StreetsView) (k clock : ℕ) → 1 ≤ k → k < n → clock ≡ s.clock + k → StreetsGo (steps k) s t → Serves (Some s) (Advance n) (ShortReply clock k) (Short k) (Some t)
    some-made t k clock some part after goes = at-some s (λ m. (new : State) × Answers m (Advance n) (ShortReply clock k) (Short k) new × StandsFor (Some t) new)
        (λ m stands. (
          Some (steps k m),
          record {
            allowed = (some, part, accepted m stands);
            state_is = refl;
            reply_is = ap (λ j. ShortReply j k) (omega (arith, after, same-clock s m stands));
          },
          some-stands t (steps k m) (goes m stands),
        ))
