-- The next lane with somebody in its cells, in its buffer or waiting, by the yard's lists.
use Rattle.std.proofs.Common.{◌≡◌, ℕ, ◌+◌, ◌*◌, ◌<◌, List, [], ◌∷◌, length, map, refl, sym, ap, subst, ◌∙◌, arith, Option, Some, None, filter_map}
use Rattle.std.proofs.lemmas.List.{length-map, nil_from_length}
use Rattle.street_base.specs.declared.car.Car.{Car}
use Rattle.street_base.specs.Prelude.{Vehicle}
use Rattle.street_yard.specs.Prelude.{Yard, list_at, car_of, lanes_in, IsWhole, IsFirstBut, cell_at, key_at, cells_at, IsFalling, IsLane}
use Rattle.street_yard.proofs.FallingLists.{key_at-split, stands-key}
use Rattle.street_yard.proofs.YardLemmas.{first-like}
use Rattle.street_lanes.specs.declared.lanes.Lanes.TheInside.{Inside}
use Rattle.street_lanes.specs.Prelude.{LaneView, Lanes, lane_of, waiting_of, queued_of, buffer_list, waiting_list, cars_on}
use Rattle.street_lanes.specs.Prelude.{IsDeserted, HasNobody, HasNobodyInCells, HasEmptyBuffer, HasNobodyWaiting}
use Rattle.street_yard.specs.Kinds.{class_of}
use Rattle.street_yard.specs.declared.names.ListKind.{ListKind}
use Rattle.street_yard.specs.declared.names.ListKind.TheVariants.{Cells, Buffer, Waiting}
use Rattle.street_lanes.specs.Inside.{length_at, lane_in, seen, AreLaidOut}
use Rattle.street_lanes.proofs.Access.{lanes-are, in-extents, lane-is}
use Rattle.street_lanes.proofs.Cars.{cars-length}
use Rattle.street_lanes.proofs.Front.{nobody-listed}

-- a list of whose cars nothing is made has no key
nobody-made : {A : Type 0} (f : Car → A) (y : Yard) (list : ℕ) → IsWhole y → map f (cars_on y list) ≡ [] → list_at y list ≡ []
nobody-made f y list whole none =
    let none_long = ap length none in
    let made = length-map (cars_on y list) f in
    let cars = cars-length y list whole in
    nil_from_length (list_at y list) (omega arith)

-- a list of which nobody stands in the cells has no key
nobody-stands : (y : Yard) (list count : ℕ) → IsWhole y → IsLane y list count → IsDeserted (cells_at y list count) → list_at y list ≡ []
nobody-stands y list count whole lane deserted = by (list_at y list) refl
  where
    by : (ks : List ℕ) → list_at y list ≡ ks → list_at y list ≡ []
    by [] e = e
    by (k ∷ ks) e =
        let falls : IsFalling (cell_at y) count (k ∷ ks) = subst (IsFalling (cell_at y) count) e lane.falls in
        let first : key_at (cell_at y) (list_at y list) (cell_at y k) ≡ Some k = ap (λ (l : List ℕ). key_at (cell_at y) l (cell_at y k)) e ∙ key_at-split (cell_at y) count [] k ks falls in
        let stands = stands-key y list count whole lane.falls (cell_at y k) k first in
        let bad : ◌≡◌ {A = Option Vehicle} (Some stands.0) None = sym stands.1 ∙ deserted (cell_at y k) in
        absurd (cc)

module _ (x : Inside) (v : Lanes) (is : seen x ≡ v) (sound : AreLaidOut x) where
  pub lanes-counted : lanes_in x.yard ≡ length v.lanes
  lanes-counted = let are = lanes-are x v is in let three = sound.three_each in omega arith

  module _ (whole : IsWhole x.yard) (lane next : ℕ) where
    -- of the lanes from this one on, `next` is the first whose list of this kind has a key, or the count of lanes
    abbrev IsNextFilled : ℕ → Type 0
    IsNextFilled class = IsFirstBut (λ n. list_at x.yard (3 * n + class) ≡ []) lane (lanes_in x.yard) next

    -- of the lanes from this one on, `next` is the first that is not such, or the count of lanes
    abbrev IsNextBut : (LaneView → Type 0) → Type 0
    IsNextBut IsSuch = IsFirstBut (λ n. IsSuch (lane_of v n)) lane (length v.lanes) next

    -- what is true of lanes whose list of a kind has no key, and of no other lane
    by-kind : (IsSuch : LaneView → Type 0) (class : ℕ)
        → ((n : ℕ) → n < length v.lanes → list_at x.yard (3 * n + class) ≡ [] → IsSuch (lane_in x.yard x.closures.items x.extents.items n))
        → ((n : ℕ) → n < length v.lanes → IsSuch (lane_in x.yard x.closures.items x.extents.items n) → list_at x.yard (3 * n + class) ≡ [])
        → IsNextFilled class → IsNextBut IsSuch
    by-kind IsSuch class such none first =
        let counted = lanes-counted in
        first-like lane (lanes_in x.yard) (length v.lanes) next first (omega (arith, counted, first.within)) (λ lt. omega (arith, counted))
        (λ n lt empty. subst IsSuch (sym (lane-is x v is n lt)) (such n lt empty))
        (λ n lt is_such. none n lt (subst IsSuch (lane-is x v is n lt) is_such))

    next-cells : IsNextFilled 0 → IsNextBut HasNobodyInCells
    next-cells = by-kind HasNobodyInCells 0
        (λ n h none. nobody-listed x.yard (3 * n) (length_at x.extents.items n) whole (subst (λ (l : ℕ). list_at x.yard l ≡ []) (at n) none))
        (λ n h deserted. subst (λ (l : ℕ). list_at x.yard l ≡ []) (sym (at n)) (nobody-stands x.yard (3 * n) (length_at x.extents.items n) whole (sound.falls n (in-extents x v is n h)) deserted))
      where
        at : (n : ℕ) → 3 * n + 0 ≡ 3 * n
        at n = omega arith

    next-buffer : IsNextFilled 1 → IsNextBut HasEmptyBuffer
    next-buffer = by-kind HasEmptyBuffer 1
        (λ n h none. ap (λ (ks : List ℕ). map queued_of (filter_map (car_of x.yard) ks)) none)
        (λ n h none. nobody-made queued_of x.yard (buffer_list n) whole none)

    next-waiting : IsNextFilled 2 → IsNextBut HasNobodyWaiting
    next-waiting = by-kind HasNobodyWaiting 2
        (λ n h none. ap (λ (ks : List ℕ). map waiting_of (filter_map (car_of x.yard) ks)) none)
        (λ n h none. nobody-made waiting_of x.yard (waiting_list n) whole none)

    pub next-of-kind : (kind : ListKind) → IsNextFilled (class_of kind) → IsNextBut (HasNobody kind)
    next-of-kind Cells = next-cells
    next-of-kind Buffer = next-buffer
    next-of-kind Waiting = next-waiting
