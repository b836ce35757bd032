-- What it takes to serve a command: what is shown of all traffic that the streets stand for.
use Rattle.std.proofs.Common.{◌≡◌, length, refl, sym, ◌∙◌, ap, subst, Some, None}
use Rattle.street_base.specs.declared.command.Command.{Command}
use Rattle.street_base.specs.declared.refusal.Refusal.{Refusal}
use Rattle.street_base.specs.declared.reply.Reply.{Reply}
use Rattle.street_base.specs.declared.reply.Reply.TheVariants.{Refused, Starved as StarvedReply}
use Rattle.street_base.specs.declared.reply.Outcome.TheVariants.{Whole, Starved}
use Rattle.street_base.specs.Prelude.{Traffic, State, refusal, done, answered, MayStarve, state_of_whole, reply_of_whole}
use Rattle.street_engine.specs.Prelude.{StreetsView, StreetsStandFor, StreetsGo, EngineView, StandsFor, Serves}

-- ---- any state

module _ (x : EngineView) (c : Command) where
  pub serves-refused : (q : Refusal) → ((m : State) → StandsFor x m → refusal m c ≡ Some q) → Serves x c (Refused q) Whole x
  serves-refused q is = λ old stands.
      let refused = is old stands in
      (old, record { allowed = tt; state_is = sym (ap (state_of_whole old c) refused); reply_is = sym (ap (reply_of_whole old c) refused) }, stands)

  pub serves-starved : (y : EngineView) → ((m : State) → StandsFor x m → MayStarve m c) → ((m : State) → StandsFor x m → StandsFor y m) → Serves x c StarvedReply Starved y
  serves-starved y may keeps = λ old stands. (old, record { allowed = may old stands; state_is = refl; reply_is = refl }, keeps old stands)

  pub serves-done : (r : Reply) (y : EngineView) → ((m : State) → StandsFor x m → (refusal m c ≡ None) × (r ≡ answered m c) × StandsFor y (done m c)) → Serves x c r Whole y
  serves-done r y is = λ old stands.
      let h = is old stands in
      (done old c, record { allowed = tt; state_is = sym (ap (state_of_whole old c) h.0); reply_is = h.1 ∙ sym (ap (reply_of_whole old c) h.0) }, h.2)

-- ---- nothing loaded

pub at-none : (P : State → Type 0) → P None → (m : State) → StandsFor None m → P m
unfolding StandsFor
at-none P h None stands = h
at-none P h (Some m) stands = absurd stands

-- ---- streets

pub at-some : (s : StreetsView) (P : State → Type 0) → ((m : Traffic) → StreetsStandFor s m → P (Some m)) → (m : State) → StandsFor (Some s) m → P m
unfolding StandsFor
at-some s P h None stands = absurd stands
at-some s P h (Some m) stands = h m stands

pub some-stands : (s : StreetsView) (m : Traffic) → StreetsStandFor s m → StandsFor (Some s) (Some m)
unfolding StandsFor
some-stands s m stands = stands

module _ (s : StreetsView) (m : Traffic) (stands : StreetsStandFor s m) where
  pub same-network : m.network ≡ s.tiles.network
  unfolding StreetsStandFor
  same-network = stands.tiles.lanes.on.network

  pub same-clock : m.clock ≡ s.clock
  unfolding StreetsStandFor
  same-clock = sym stands.clock

  pub same-ends : m.ends ≡ s.ends
  unfolding StreetsStandFor
  same-ends = sym stands.ends

  pub same-count : length m.detectors ≡ length s.sites
  unfolding StreetsStandFor
  same-count = sym stands.sites.even

module _ (s : StreetsView) (c : Command) where
  pub streets-refused : (q : Refusal) → ((m : Traffic) → StreetsStandFor s m → refusal (Some m) c ≡ Some q) → Serves (Some s) c (Refused q) Whole (Some s)
  streets-refused q refused = serves-refused (Some s) c q (at-some s (λ m. refusal m c ≡ Some q) refused)

  pub streets-starved : (t : StreetsView) → ((m : Traffic) → StreetsStandFor s m → MayStarve (Some m) c) → StreetsGo (λ m. m) s t → Serves (Some s) c StarvedReply Starved (Some t)
  streets-starved t may keeps = serves-starved (Some s) c (Some t) (at-some s (λ m. MayStarve m c) may) (at-some s (λ m. StandsFor (Some t) m) (λ m stands. some-stands t m (keeps m stands)))

  -- where nothing is changed
  pub streets-starving : ((m : Traffic) → StreetsStandFor s m → MayStarve (Some m) c) → Serves (Some s) c StarvedReply Starved (Some s)
  streets-starving may = streets-starved s may (λ m stands. stands)

  pub streets-done : (t : StreetsView) (r : Reply) (f : Traffic → Traffic) → ((m : Traffic) → done (Some m) c ≡ Some (f m)) → StreetsGo f s t → ((m : Traffic) → StreetsStandFor s m → (refusal (Some m) c ≡ None) × (r ≡ answered (Some m) c)) → Serves (Some s) c r Whole (Some t)
  streets-done t r f does goes h = serves-done (Some s) c r (Some t) (at-some s (λ m. (refusal m c ≡ None) × (r ≡ answered m c) × StandsFor (Some t) (done m c))
      (λ m stands. let both = h m stands in (both.0, both.1, subst (λ (n : State). StandsFor (Some t) n) (sym (does m)) (some-stands t (f m) (goes m stands)))))

  -- a command that only looks
  pub streets-told : (r : Reply) → ((m : Traffic) → done (Some m) c ≡ Some m) → ((m : Traffic) → StreetsStandFor s m → (refusal (Some m) c ≡ None) × (r ≡ answered (Some m) c)) → Serves (Some s) c r Whole (Some s)
  streets-told r does h = streets-done s r (λ m. m) does (λ m stands. stands) h
