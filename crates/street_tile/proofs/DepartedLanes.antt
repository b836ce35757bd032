-- Departures on a tile's lanes, from one lane on which somebody waits to the next.
use Rattle.std.proofs.Common.{◌≡◌, ℕ, ◌+◌, ◌<◌, ◌≤◌, List, slice_get, refl, sym, ◌∙◌, ap, subst, arith, inl, inr}
use Rattle.std.proofs.lemmas.Bool.{cases_eq, cases_lt}
use Rattle.std.proofs.lemmas.Option.{slice_get_within, slice_get-get_or, get_or_from_slice_get}
use Rattle.street_base.specs.declared.names.Place.{Place}
use Rattle.street_base.specs.Prelude.{Traffic, LaneState, no_lane, lane_at, departed_lane}
use Rattle.street_lanes.specs.Prelude.{LaneView, LaneStands, Lanes, Same, GoesAt, lane_of, LanesGo, StaysAt}
use Rattle.street_tile.specs.Prelude.{DepartAll}
use Rattle.street_tile.proofs.SameLanes.{same-long}

-- the lanes before k stand for what departures make of what they stood for, and the others are as they were
pub record DepartedTo (clock : ℕ) (old : Lanes) (k : ℕ) (now : Lanes) : Type 0 where
  pub done : (j : ℕ) (s : LaneState) → j < k → LaneStands (lane_of old j) s → LaneStands (lane_of now j) (departed_lane clock s)
  pub rest : (j : ℕ) → k ≤ j → lane_of now j ≡ lane_of old j

pub departed-start : (clock : ℕ) (old : Lanes) → DepartedTo clock old 0 old
departed-start clock old = record { done = λ j s below. absurd (omega arith); rest = λ j above. refl }

pub departed-next : (clock : ℕ) (old : Lanes) (k : ℕ) (now after : Lanes) → DepartedTo clock old k now → GoesAt k (departed_lane clock) now after → DepartedTo clock old (k + 1) after
departed-next clock old k now after d goes = record {
  done = λ j s below stands. elim (cases_eq j k) as (λ _. LaneStands (lane_of after j) (departed_lane clock s)) [
    | inl e ↦ subst (λ (i : ℕ). LaneStands (lane_of after i) (departed_lane clock s)) (sym e) (goes.goes s (subst (λ (x : LaneView). LaneStands x s) (sym (d.rest k (omega arith))) (subst (λ (i : ℕ). LaneStands (lane_of old i) s) e stands)))
    | inr ne ↦ subst (λ (x : LaneView). LaneStands x (departed_lane clock s)) (sym (goes.others j ne)) (d.done j s (omega arith) stands)
  ];
  rest = λ j above. goes.others j (λ e. absurd (omega arith)) ∙ d.rest j (omega arith);
}

-- the lanes from k on and before j, on which nobody departs
pub departed-over : (clock : ℕ) (old : Lanes) (k j : ℕ) (now : Lanes) → k ≤ j → ((i : ℕ) → k ≤ i → i < j → StaysAt clock (lane_of now i)) → DepartedTo clock old k now → DepartedTo clock old j now
departed-over clock old k j now le nobody d = record {
  done = λ i s below stands. elim (cases_lt i k) as (λ _. LaneStands (lane_of now i) (departed_lane clock s)) [
    | inl sooner ↦ d.done i s sooner stands
    | inr later ↦ (
        let here : LaneStands (lane_of now i) s = subst (λ (x : LaneView). LaneStands x s) (sym (d.rest i later)) stands in
        subst (LaneStands (lane_of now i)) (sym (nobody i later below s here)) here)
  ];
  rest = λ i above. d.rest i (omega arith);
}

-- lanes that stand for a rule of what they stood for, and then for that after departures
pub placed-departed : (clock : ℕ) (rule : Place → LaneState → LaneState) (m : Traffic) (mid new : Lanes) → Same mid new → LanesGo rule m mid.places mid.lanes → DepartAll clock mid new
    → LanesGo (λ p s. departed_lane clock (rule p s)) m new.places new.lanes
placed-departed clock rule m mid new same go depart k p l at is =
    let at_mid = ap (λ (ps : List Place). slice_get ps k) (sym same.places) ∙ at in
    let long = same-long mid new same in
    let h = slice_get_within new.lanes k l is in
    let there = go k p (lane_of mid k) at_mid (slice_get-get_or mid.lanes k no_lane (omega (arith, h, long))) in
    subst (λ (x : LaneView). LaneStands x (departed_lane clock (rule p (lane_at m p)))) (get_or_from_slice_get new.lanes k l no_lane is)
    (depart k (rule p (lane_at m p)) (slice_get_within mid.places k p at_mid) there)
