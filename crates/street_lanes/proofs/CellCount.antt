-- How many stand in the cells of a list.
use Rattle.std.proofs.Common.{◌≡◌, ℕ, zero, suc, ◌+◌, ◌<◌, cond, List, [], ◌∷◌, length, map, get_or, set, Option, Some, None, refl, sym, ap, subst, ◌∙◌, inl, inr, arith, is_some, count_by, option_map, option_and_then}
use Rattle.std.specs.List.{range_with_len}
use Rattle.std.proofs.lemmas.Bool.{cases_eq, cond-true, cond-false, eq-eqb, ne_eqb}
use Rattle.std.proofs.lemmas.List.{length-set, get_or-set_same, get_or-set_other}
use Rattle.std.proofs.lemmas.List.FromFn.{length-map-range_with_len, get_or-map-range_with_len, fill_by_all}
use Rattle.std.proofs.lemmas.List.Sums.{sum_by-cons, sum_by-set}
use Rattle.street_base.specs.Prelude.{Vehicle, vehicle_of}
use Rattle.street_yard.specs.Prelude.{Yard, list_at, Has, IsWhole, cell_at, vehicle_with, cells_at, IsFalling, IsLane}
use Rattle.street_yard.proofs.Keys.{has-later}
use Rattle.street_yard.proofs.FallingLists.{found, falling-below, falling-wider}
use Rattle.street_lanes.proofs.Cars.{car_there}

abbrev one_there : Option Vehicle → ℕ
one_there o = cond (is_some o) 1 0

none-count : (low n : ℕ) → count_by (is_some {T = Vehicle}) (map (λ x. None) (range_with_len low n)) ≡ 0
none-count low zero = refl
none-count low (suc n) = (let more = sum_by-cons one_there None (map (λ x. None) (range_with_len (low + 1) n)) in let rest = none-count (low + 1) n in omega (arith, more, rest))

-- one more key fills one more cell
found-set : (f : ℕ → ℕ) (who : ℕ → Option Vehicle) (count x : ℕ) (xs : List ℕ) → f x < count → map (found f who (x ∷ xs)) (range_with_len 0 count) ≡ set (map (found f who xs) (range_with_len 0 count)) (f x) (who x)
found-set f who count x xs low = sym (fill_by_all (found f who (x ∷ xs)) (set (map (found f who xs) (range_with_len 0 count)) (f x) (who x)) count None (length-set (map (found f who xs) (range_with_len 0 count)) (f x) (who x) ∙ length-map-range_with_len (found f who xs) 0 count) at)
  where
    at : (k : ℕ) → k < count → get_or (set (map (found f who xs) (range_with_len 0 count)) (f x) (who x)) k None ≡ found f who (x ∷ xs) k
    at k h = elim (cases_eq (f x) k) as (λ _. get_or (set (map (found f who xs) (range_with_len 0 count)) (f x) (who x)) k None ≡ found f who (x ∷ xs) k) [
      | inl e ↦ subst (λ j. get_or (set (map (found f who xs) (range_with_len 0 count)) (f x) (who x)) j None ≡ found f who (x ∷ xs) j) e (get_or-set_same (map (found f who xs) (range_with_len 0 count)) (f x) (who x) None (rw length-map-range_with_len low) ∙ sym (ap (option_and_then who) (cond-true _ _ _ (eq-eqb (f x) (f x) refl))))
      | inr ne ↦ get_or-set_other (map (found f who xs) (range_with_len 0 count)) (f x) k (who x) None (λ e. ne (sym e)) ∙ get_or-map-range_with_len (found f who xs) 0 count k k None h (omega arith) ∙ sym (ap (option_and_then who) (cond-false _ _ _ (ne_eqb (f x) k ne)))
    ]

falling-count : (f : ℕ → ℕ) (who : ℕ → Option Vehicle) (count : ℕ) (xs : List ℕ) → ((k : ℕ) → Has xs k → (v : Vehicle) × (who k ≡ Some v)) → IsFalling f count xs → count_by is_some (map (found f who xs) (range_with_len 0 count)) ≡ length xs
falling-count f who count [] there falls = none-count 0 count
falling-count f who count (x ∷ xs) there falls =
    let before : List (Option Vehicle) = map (found f who xs) (range_with_len 0 count) in
    let here : one_there (who x) ≡ 1 = ap one_there (there x ([], xs, refl)).1 in
    let low : f x < count = falls.0 in
    let long : f x < length before = rw length-map-range_with_len low in
    let gap : one_there (get_or before (f x) None) ≡ 0 = ap one_there (get_or-map-range_with_len (found f who xs) 0 count (f x) (f x) None low (omega arith) ∙ ap (option_and_then who) (falling-below f (f x) xs (f x) falls.1 (omega arith))) in
    let rest = falling-count f who count xs (λ k h. there k (has-later x k xs h)) (falling-wider f (f x) count xs (omega arith) falls.1) in
    let put = sum_by-set one_there before (f x) (who x) None long in
    ap (count_by is_some) (found-set f who count x xs low) ∙ omega (arith, here, gap, rest, put)

-- each key of a list stands in a cell of its own
pub cells-number : (y : Yard) (list count : ℕ) → IsWhole y → IsLane y list count → count_by is_some (cells_at y list count) ≡ length (list_at y list)
unfolding cells_at
cells-number y list count whole lane =
    falling-count (cell_at y) (vehicle_with y) count (list_at y list)
    (λ k h. (let c = car_there y list k whole h in (vehicle_of c.0, ap (option_map vehicle_of) c.1))) lane.falls
