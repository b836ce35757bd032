-- A lane after departures, by who is first in the order.
use Rattle.std.proofs.Common.{◌≡◌, ℕ, ◌<◌, ◌≤◌, true, false, List, [], ◌∷◌, ◌++◌, length, set, Option, Some, None, refl, ap, subst, ◌∙◌, inl, inr, arith}
use Rattle.std.specs.Set.{remove_key}
use Rattle.std.specs.Option.{option_map_or}
use Rattle.std.proofs.lemmas.Bool.{cases_Bool}
use Rattle.street_base.specs.Prelude.{with_speed, is_free, LaneState, Waiting, departs, departing, with_departure, departed_lane, in_order}
use Rattle.street_lanes.specs.Prelude.{GoesBefore, AreInOrder}
use Rattle.street_lanes.proofs.WaitingOrder.{Split, first-split, in_order-before, first-goes, first-stays, first-gone, in_order-length}

none-waits : (ws : List Waiting) → in_order ws ≡ [] → ws ≡ []
none-waits [] e = refl
none-waits (w ∷ ws) e = absurd (let a = in_order-length (w ∷ ws) in let b = ap length e in omega (arith, a, b))

nobody-first : (clock : ℕ) → departing clock [] ≡ None
unfolding departing
nobody-first clock = refl

module _ (clock : ℕ) (s : LaneState) where
  pub departed-shut : is_free s.track 0 ≡ false → departed_lane clock s ≡ s
  unfolding departed_lane
  departed-shut shut = rw shut refl

  pub departed-nobody : in_order s.waiting ≡ [] → departed_lane clock s ≡ s
  unfolding departed_lane
  departed-nobody none = elim (cases_Bool (is_free s.track 0)) as (λ _. departed_lane clock s ≡ s) [
    | inl free ↦ rw free (ap (λ (o : Option Waiting). option_map_or (with_departure clock s) o s) (ap (departing clock) (none-waits s.waiting none) ∙ nobody-first clock))
    | inr shut ↦ rw shut refl
  ]

  module _ (w : Waiting) (rest : List Waiting) (first : in_order s.waiting ≡ w ∷ rest) (order : AreInOrder (w ∷ rest)) where
    pub split : Split s.waiting w rest
    split = first-split s.waiting w rest first

    order-split : GoesBefore w (split.0 ++ split.1)
    order-split = in_order-before w (split.0 ++ split.1) (subst (λ l. GoesBefore w l) split.3 order.0)

    goes : w.depart ≤ clock → departing clock s.waiting ≡ Some w
    goes due = ap (departing clock) split.2 ∙ first-goes clock split.0 w split.1 order-split due

    stays : clock < w.depart → departing clock s.waiting ≡ None
    stays early = ap (departing clock) split.2 ∙ first-stays clock split.0 w split.1 order-split early

    without : w.depart ≤ clock → remove_key (departs clock s.waiting) s.waiting ≡ split.0 ++ split.1
    without due = ap (λ l. remove_key (departs clock l) l) split.2 ∙ first-gone clock split.0 w split.1 order-split due

    pub departed-early : clock < w.depart → departed_lane clock s ≡ s
    unfolding departed_lane
    departed-early early = elim (cases_Bool (is_free s.track 0)) as (λ _. departed_lane clock s ≡ s) [
      | inl free ↦ rw free (ap (λ (o : Option Waiting). option_map_or (with_departure clock s) o s) (stays early))
      | inr shut ↦ departed-shut shut
    ]

    pub departed-goes : is_free s.track 0 ≡ true → w.depart ≤ clock → departed_lane clock s ≡ record s { track = record s.track { cells = set s.track.cells 0 (Some (with_speed w.vehicle 0)) }; waiting = split.0 ++ split.1 }
    unfolding departed_lane
    departed-goes free due =
        rw free (ap (λ (o : Option Waiting). option_map_or (with_departure clock s) o s) (goes due)
        ∙ ap (λ ws. record s { track = record s.track { cells = set s.track.cells 0 (Some (with_speed w.vehicle 0)) }; waiting = ws }) (without due))
