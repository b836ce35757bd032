-- Vehicles by their numbers.
use Rattle.std.proofs.Common.{◌≡◌, ℕ, ◌<◌, ◌≤◌, true, false, List, length, refl, sym, ◌∙◌, ap, subst, arith, Option, Some, None, is_some, slice_index_or, option_map}
use Rattle.std.specs.Option.{option_map_or, option_or}
use Rattle.std.proofs.lemmas.Bool.{le-leb, lt-leb}
use Rattle.street_base.specs.declared.command.Command.TheVariants.{TakeOut, Vehicle as AskVehicle}
use Rattle.street_base.specs.declared.refusal.Refusal.TheVariants.{NoVehicle, Gone}
use Rattle.street_base.specs.declared.reply.End.{End}
use Rattle.street_base.specs.declared.reply.Whereabouts.{Whereabouts}
use Rattle.street_base.specs.declared.reply.Whereabouts.TheVariants.{Ended}
use Rattle.street_base.specs.declared.reply.Reply.TheVariants.{Taken, Vehicle as TellVehicle, Refused, Starved as StarvedReply}
use Rattle.street_base.specs.declared.reply.Outcome.TheVariants.{Whole, Starved}
use Rattle.street_base.specs.Prelude.{Traffic, taken_out, end_of, vehicle_refusal, whereabouts_on_lanes, vehicle_reply, MayStarveUnder}
use Rattle.street_engine.specs.Prelude.{StreetsView, StreetsStandFor, StreetsGo, Serves}
use Rattle.street_engine.proofs.Serves.{same-ends, streets-refused, streets-starving, streets-done, streets-told}

module _ (s : StreetsView) (car : ℕ) where
  many : (m : Traffic) → StreetsStandFor s m → length m.ends ≡ length s.ends
  many m stands = ap length (same-ends s m stands)

  ended : (m : Traffic) → StreetsStandFor s m → end_of m car ≡ slice_index_or s.ends car None
  ended m stands = ap (λ (ends : List (Option End)). slice_index_or ends car None) (same-ends s m stands)

  pub takeout-unknown : length s.ends ≤ car → Serves (Some s) (TakeOut car) (Refused NoVehicle) Whole (Some s)
  takeout-unknown past = streets-refused s (TakeOut car) NoVehicle (λ m stands. let e = le-leb (length m.ends) car (omega (arith, past, many m stands)) in rw e refl)

  pub vehicle-unknown : length s.ends ≤ car → Serves (Some s) (AskVehicle car) (Refused NoVehicle) Whole (Some s)
  vehicle-unknown past = streets-refused s (AskVehicle car) NoVehicle (λ m stands. let e = le-leb (length m.ends) car (omega (arith, past, many m stands)) in rw e refl)

  module _ (given : car < length s.ends) where
    known : (m : Traffic) → StreetsStandFor s m → vehicle_refusal car m ≡ None
    known m stands = let e = lt-leb (length m.ends) car (omega (arith, given, many m stands)) in rw e refl

    pub takeout-gone : is_some (slice_index_or s.ends car None) ≡ true → Serves (Some s) (TakeOut car) (Refused Gone) Whole (Some s)
    takeout-gone gone = streets-refused s (TakeOut car) Gone (λ m stands.
        let a = lt-leb (length m.ends) car (omega (arith, given, many m stands)) in
        let b : is_some (end_of m car) ≡ true = ap is_some (ended m stands) ∙ gone in
        rw (a, b) refl)

    pub takeout-done : (t : StreetsView) → is_some (slice_index_or s.ends car None) ≡ false → StreetsGo (λ m. taken_out m car) s t → Serves (Some s) (TakeOut car) (Taken car) Whole (Some t)
    takeout-done t going goes = streets-done s (TakeOut car) t (Taken car) (λ m. taken_out m car) (λ m. refl) goes (λ m stands.
        let a = lt-leb (length m.ends) car (omega (arith, given, many m stands)) in
        let b : is_some (end_of m car) ≡ false = ap is_some (ended m stands) ∙ going in
        (rw (a, b) refl, refl))

    pub vehicle-ended : (end : End) → slice_index_or s.ends car None ≡ Some end → Serves (Some s) (AskVehicle car) (TellVehicle car (Ended end)) Whole (Some s)
    vehicle-ended end gone = streets-told s (AskVehicle car) _ (λ m. refl) (λ m stands.
        (known m stands, sym (ap (λ (o : Option End). option_map_or (λ found. TellVehicle car found) (option_or (option_map (λ e. Ended e) o) (whereabouts_on_lanes m car)) (Refused NoVehicle)) (ended m stands ∙ gone))))

    module _ (going : slice_index_or s.ends car None ≡ None) where
      told-seen : (m : Traffic) → StreetsStandFor s m → (found : Option Whereabouts) → found ≡ whereabouts_on_lanes m car → vehicle_reply m car ≡ option_map_or (λ w. TellVehicle car w) found (Refused NoVehicle)
      told-seen m stands found e =
          ap (λ (o : Option End). option_map_or (λ w. TellVehicle car w) (option_or (option_map (λ e. Ended e) o) (whereabouts_on_lanes m car)) (Refused NoVehicle)) (ended m stands ∙ going)
          ∙ ap (λ (o : Option Whereabouts). option_map_or (λ w. TellVehicle car w) o (Refused NoVehicle)) (sym e)

      pub vehicle-found : (w : Whereabouts) → ((m : Traffic) → StreetsStandFor s m → Some w ≡ whereabouts_on_lanes m car) → Serves (Some s) (AskVehicle car) (TellVehicle car w) Whole (Some s)
      vehicle-found w found = streets-told s (AskVehicle car) _ (λ m. refl) (λ m stands. (known m stands, sym (told-seen m stands (Some w) (found m stands))))

      pub vehicle-nowhere : ((m : Traffic) → StreetsStandFor s m → None ≡ whereabouts_on_lanes m car) → Serves (Some s) (AskVehicle car) (Refused NoVehicle) Whole (Some s)
      vehicle-nowhere nowhere = streets-told s (AskVehicle car) _ (λ m. refl) (λ m stands. (known m stands, sym (told-seen m stands None (nowhere m stands))))

      pub vehicle-starved : Serves (Some s) (AskVehicle car) StarvedReply Starved (Some s)
      vehicle-starved = streets-starving s (AskVehicle car) (λ m stands. (subst MayStarveUnder (sym (known m stands)) tt, ended m stands ∙ going))
