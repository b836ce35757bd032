-- What is known of when the first who wait depart.
use Rattle.std.proofs.Common.{◌≡◌, ◌≢◌, ◌⊎◌, ℕ, zero, suc, ◌+◌, ◌*◌, ◌/◌, ◌<◌, ◌≤◌, List, [], ◌∷◌, length, get_or, set, replicate, Option, Some, refl, sym, ap, subst, ◌∙◌, inl, inr, arith, slice_get}
use Rattle.std.proofs.lemmas.Bool.{cases_eq, cases_lt}
use Rattle.std.proofs.lemmas.List.{length-set, get_or-set_same, get_or-set_other, get_or_past}
use Rattle.street_base.specs.declared.car.Car.{Car}
use Rattle.street_base.specs.Prelude.{LaneState, departed_lane}
use Rattle.street_gap.specs.declared.closures.Stretch.{Stretch}
use Rattle.street_yard.specs.Prelude.{Yard, Away, IsWhole}
use Rattle.street_lanes.specs.declared.lanes.Extent.{Extent}
use Rattle.street_lanes.specs.Prelude.{cells_list, buffer_list, waiting_list, cars_on, IsLaneOf, Touches, Packs, LaneView, LaneStands, HasNobodyWaiting, StaysAt, IsFirstDue, AreDue, IsFound, TakesOut}
use Rattle.street_lanes.specs.Inside.{lane_in}
use Rattle.street_lanes.proofs.Cars.{cars-kept}
use Rattle.street_lanes.proofs.PackLemmas.{cars-same}
use Rattle.street_lanes.proofs.DepartedLane.{departed-nobody}
use Rattle.street_lanes.proofs.LaneCalls.{nobody-departs, early-stays}

first-again : (y new : Yard) (n d : ℕ) → cars_on new (waiting_list n) ≡ cars_on y (waiting_list n) → IsFirstDue y n d → IsFirstDue new n d
first-again y new n d same due c is = due c (sym (ap (λ cs. slice_get cs 0) same) ∙ is)

-- lists of those who wait are as they were
pub due-kept : (ls : List ℕ) (y new : Yard) (lanes : ℕ) (due : List ℕ) → Touches ls y new → ((n : ℕ) → Away (waiting_list n) ls) → AreDue y lanes due → AreDue new lanes due
due-kept ls y new lanes due t away are n h = first-again y new n (get_or due (n / 64) 0) (cars-kept y new (waiting_list n) (t.others (waiting_list n) (away n))) (are n h)

pub due-packed : (y new : Yard) (lanes : ℕ) (due : List ℕ) → Packs y new → AreDue y lanes due → AreDue new lanes due
due-packed y new lanes due packs are n h = first-again y new n (get_or due (n / 64) 0) (cars-same y new (waiting_list n) (packs.held (waiting_list n))) (are n h)

zero-set : (due : List ℕ) (g : ℕ) → get_or (set due g 0) g 0 ≡ 0
zero-set due g = elim (cases_lt g (length due)) as (λ _. get_or (set due g 0) g 0 ≡ 0) [
  | inl lt ↦ get_or-set_same due g 0 0 lt
  | inr ge ↦ get_or_past (set due g 0) g 0 (rw (length-set due g 0) ge)
]

-- of a lane's group nothing is known any more
pub due-forgot : (ls : List ℕ) (y new : Yard) (lanes lane : ℕ) (due : List ℕ) → Touches ls y new → ((n : ℕ) → n ≢ lane → Away (waiting_list n) ls) → AreDue y lanes due → AreDue new lanes (set due (lane / 64) 0)
due-forgot ls y new lanes lane due t away are n h = elim (cases_eq (n / 64) (lane / 64)) as (λ _. IsFirstDue new n (get_or (set due (lane / 64) 0) (n / 64) 0)) [
  | inl e ↦ (λ c is. subst (λ d. d ≤ c.step) (sym (ap (λ g. get_or (set due (lane / 64) 0) g 0) e ∙ zero-set due (lane / 64))) (omega arith))
  | inr ne ↦ subst (IsFirstDue new n) (sym (get_or-set_other due (lane / 64) (n / 64) 0 0 ne)) (first-again y new n (get_or due (n / 64) 0) (cars-kept y new (waiting_list n) (t.others (waiting_list n) (away n (λ e. ne (ap (λ k. k / 64) e))))) (are n h))
]

-- a step that was found for a group
pub due-found : (y : Yard) (lanes : ℕ) (due : List ℕ) (g least : ℕ) → ((n : ℕ) → 64 * g ≤ n → n < 64 * g + 64 → n < lanes → IsFirstDue y n least) → AreDue y lanes due → AreDue y lanes (set due g least)
due-found y lanes due g least found are n h = elim (cases_eq (n / 64) g) as (λ _. IsFirstDue y n (get_or (set due g least) (n / 64) 0)) [
  | inl e ↦ subst (λ k. IsFirstDue y n (get_or (set due g least) k 0)) (sym e) (elim (cases_lt g (length due)) as (λ _. IsFirstDue y n (get_or (set due g least) g 0)) [
    | inl lt ↦ subst (IsFirstDue y n) (sym (get_or-set_same due g least 0 lt)) (found n (omega (arith, e)) (omega (arith, e)) h)
    | inr ge ↦ (λ c is. subst (λ d. d ≤ c.step) (sym (get_or_past (set due g least) g 0 (rw (length-set due g least) ge))) (omega arith))
  ])
  | inr ne ↦ subst (IsFirstDue y n) (sym (get_or-set_other due g (n / 64) least 0 ne)) (are n h)
]

-- ---- which lists a call changes

pub away-cells : (lane n : ℕ) → Away (waiting_list n) (cells_list lane ∷ [])
away-cells lane n = ((λ e. omega arith), tt)

pub away-buffer : (lane n : ℕ) → Away (waiting_list n) (buffer_list lane ∷ [])
away-buffer lane n = ((λ e. omega arith), tt)

pub away-both : (lane n : ℕ) → Away (waiting_list n) (cells_list lane ∷ buffer_list lane ∷ [])
away-both lane n = ((λ e. omega arith), ((λ e. omega arith), tt))

pub away-pair : (lane n : ℕ) → Away (waiting_list n) (cells_list lane ∷ cells_list (lane + 1) ∷ [])
away-pair lane n = ((λ e. omega arith), ((λ e. omega arith), tt))

pub away-waiting : (lane n : ℕ) → n ≢ lane → Away (waiting_list n) (waiting_list lane ∷ [])
away-waiting lane n ne = ((λ e. ne (omega (arith, e))), tt)

pub away-departed : (lane n : ℕ) → n ≢ lane → Away (waiting_list n) (waiting_list lane ∷ cells_list lane ∷ [])
away-departed lane n ne = ((λ e. ne (omega (arith, e))), ((λ e. omega arith), tt))

-- the list of a vehicle that was found on a lane
pub away-taken : (y new : Yard) (lane number key : ℕ) (car : Car) → IsWhole y → (t : TakesOut y new key car) → IsFound y lane number (Some key) → (n : ℕ) → n ≢ lane → Away (waiting_list n) (t.list ∷ [])
away-taken y new lane number key car whole t found n ne =
    let named : ◌≡◌ {A = Option ℕ} (Some found.0) (Some t.list) = sym (whole.names key found.0 found.2.0) ∙ t.on in
    let same : found.0 ≡ t.list = cc in
    ((λ e. by found.1 (e ∙ sym same)), tt)
  where
    by : ((found.0 ≡ cells_list lane) ⊎ ((found.0 ≡ buffer_list lane) ⊎ (found.0 ≡ waiting_list lane))) → waiting_list n ≡ found.0 → ⊥
    by (inl is) e = omega (arith, is, e)
    by (inr (inl is)) e = omega (arith, is, e)
    by (inr (inr is)) e = ne (omega (arith, is, e))

-- ---- a lane on which nobody waits

pub nobody-stays : (clock : ℕ) (x : LaneView) → HasNobodyWaiting x → StaysAt clock x
unfolding LaneStands
nobody-stays clock x nobody = λ s stands. departed-nobody clock s (sym stands.waiting ∙ nobody)

-- ---- a new yard

zeros : (count k : ℕ) → ◌≡◌ {A = ℕ} (get_or (replicate count 0) k 0) 0
zeros zero k = refl
zeros (suc count) zero = refl
zeros (suc count) (suc k) = zeros count k

pub due-fresh : (y : Yard) (lanes count : ℕ) (due : List ℕ) → due ≡ replicate count 0 → AreDue y lanes due
due-fresh y lanes count due is n h c first = subst (λ d. d ≤ c.step) (sym (ap (λ ds. get_or ds (n / 64) 0) is ∙ zeros count (n / 64))) (omega arith)

-- ---- a lane whose group's step has not come

pub quiet-stays : (y : Yard) (closures : List (List Stretch)) (extents : List Extent) (due : List ℕ) → AreDue y (length extents) due → (clock k : ℕ) → k < length extents → clock < get_or due (k / 64) 0
    → (s : LaneState) → IsLaneOf (lane_in y closures extents k) s → departed_lane clock s ≡ s
quiet-stays y closures extents due are clock k h later s st = by (cars_on y (waiting_list k)) refl
  where
    by : (cs : List Car) → cars_on y (waiting_list k) ≡ cs → departed_lane clock s ≡ s
    by [] e = nobody-departs y closures extents k clock e s st
    by (c ∷ cs) e = (let first : slice_get (cars_on y (waiting_list k)) 0 ≡ Some c = ap (λ ds. slice_get ds 0) e in let after = are k h c first in early-stays y closures extents k c first clock (omega (arith, later, after)) s st)
