-- Vehicles that enter.
use Rattle.std.proofs.Common.{◌≡◌, ℕ, List, length, refl, sym, ◌∙◌, ap, subst, Option, Some, None}
use Rattle.street_base.specs.declared.command.Command.TheVariants.{Enter}
use Rattle.street_base.specs.declared.refusal.Refusal.{Refusal}
use Rattle.street_base.specs.declared.reply.Reply.TheVariants.{Entered, Refused, Starved as StarvedReply}
use Rattle.street_base.specs.declared.reply.Outcome.TheVariants.{Whole, Starved}
use Rattle.street_base.specs.Prelude.{Traffic, enter_refusal, entered, MayStarveUnder}
use Rattle.street_engine.specs.Prelude.{StreetsView, StreetsStandFor, StreetsGo, Serves, TellsEntry}
use Rattle.street_engine.proofs.Serves.{same-network, same-ends, streets-refused, streets-starved, streets-done}

module _ (s : StreetsView) (plan : List ℕ) (lane depart size : ℕ) where
  many : (m : Traffic) → StreetsStandFor s m → length m.ends ≡ length s.ends
  many m stands = ap length (same-ends s m stands)

  module _ (refusal : Option Refusal) (told_is : TellsEntry s plan lane depart size refusal) where
    told-of : (m : Traffic) → StreetsStandFor s m → refusal ≡ enter_refusal plan lane depart size m
    told-of m stands = told_is m (same-network s m stands) (many m stands)

    pub enter-refused : (q : Refusal) → refusal ≡ Some q → Serves (Some s) (Enter plan lane depart size) (Refused q) Whole (Some s)
    enter-refused q e = streets-refused s (Enter plan lane depart size) q (λ m stands. sym (told-of m stands) ∙ e)

    module _ (none : refusal ≡ None) where
      accepted : (m : Traffic) → StreetsStandFor s m → enter_refusal plan lane depart size m ≡ None
      accepted m stands = sym (told-of m stands) ∙ none

      pub enter-starved : (t : StreetsView) → StreetsGo (λ m. m) s t → Serves (Some s) (Enter plan lane depart size) StarvedReply Starved (Some t)
      enter-starved t keeps = streets-starved s (Enter plan lane depart size) t (λ m stands. subst MayStarveUnder (sym (accepted m stands)) tt) keeps

      pub enter-done : (t : StreetsView) (car : ℕ) → car ≡ length s.ends → StreetsGo (λ m. entered m plan lane depart size) s t → Serves (Some s) (Enter plan lane depart size) (Entered car) Whole (Some t)
      enter-done t car number goes = streets-done s (Enter plan lane depart size) t (Entered car) (λ m. entered m plan lane depart size) (λ m. refl) goes
          (λ m stands. (accepted m stands, ap (λ n. Entered n) (number ∙ sym (many m stands))))
