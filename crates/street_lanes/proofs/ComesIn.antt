-- A vehicle comes into cell 0 of a list.
use Rattle.std.proofs.Common.{◌≡◌, ◌≢◌, ℕ, ◌<◌, List, [], ◌∷◌, ◌++◌, get_or, set, false, Option, Some, None, refl, sym, ap, subst, ◌∙◌, inl, inr, arith, option_map, option_and_then, unwrap_or}
use Rattle.std.proofs.lemmas.Bool.{cases_eq, cond-true, cond-false, eq-eqb, ne_eqb}
use Rattle.std.proofs.lemmas.List.{append-nil, length-set, get_or-set_same, get_or-set_other}
use Rattle.std.proofs.lemmas.List.FromFn.{length-map-range_with_len, fill_by_all}
use Rattle.street_base.specs.declared.car.Car.{Car}
use Rattle.street_base.specs.Prelude.{Vehicle, vehicle_of, is_covered, AreDisjoint}
use Rattle.street_base.proofs.CoverLemmas.{uncovered-empty}
use Rattle.street_base.proofs.ApartLemmas.{uncovered-entry}
use Rattle.street_yard.specs.Prelude.{Yard, list_at, car_of, Has, IsWhole, cell_at, vehicle_with, key_at, seen_at, cells_at, IsFalling, IsLane, AllAbove}
use Rattle.street_yard.proofs.Keys.{has-later}
use Rattle.street_yard.proofs.YardLemmas.{cell_is}
use Rattle.street_yard.proofs.FallingLists.{falling-push, above-none, key_at-append, key_at-drop, cells-length, cells-read, seen-key, falling-agree, found-agree}
use Rattle.street_lanes.specs.Prelude.{ComesIn}

-- where nobody stands in cell 0, all stand above it
pub all-above : (f : ℕ → ℕ) (xs : List ℕ) → key_at f xs 0 ≡ None → AllAbove f 0 xs
all-above f [] e = tt
all-above f (x ∷ xs) e = elim (cases_eq (f x) 0) as (λ _. AllAbove f 0 (x ∷ xs)) [
  | inl z ↦ (let bad : ◌≡◌ {A = Option ℕ} (Some x) None = sym (cond-true _ _ _ (eq-eqb (f x) 0 z)) ∙ e in absurd (cc))
  | inr ne ↦ (omega arith, all-above f xs (sym (cond-false _ _ _ (ne_eqb (f x) 0 ne)) ∙ e))
]

-- where nobody is seen in a cell, no key is there
pub none-there : (y : Yard) (list count x : ℕ) → IsWhole y → IsLane y list count → seen_at y list x ≡ None → key_at (cell_at y) (list_at y list) x ≡ None
none-there y list count x whole lane empty = by (key_at (cell_at y) (list_at y list) x) refl
  where
    by : (o : Option ℕ) → key_at (cell_at y) (list_at y list) x ≡ o → o ≡ None
    by None e = refl
    by (Some k) e =
        let s = seen-key y list count whole lane.falls x k e in
        let bad : ◌≡◌ {A = Option Vehicle} (Some s.0) None = sym s.2 ∙ cells-read y list count whole lane.falls x ∙ empty in
        absurd (cc)

module _ (old new : Yard) (list key : ℕ) (car : Car) (whole : IsWhole old) (listed : list_at new list ≡ list_at old list ++ key ∷ []) (same : (k : ℕ) → Has (list_at old list) k → car_of new k ≡ car_of old k) (is : car_of new key ≡ Some car) (low : car.cell ≡ 0) where
  key_cell : cell_at new key ≡ 0
  key_cell = cell_is new key car is ∙ low

  same_cell : (k : ℕ) → Has (list_at old list) k → cell_at old k ≡ cell_at new k
  same_cell k h = ap (λ o. unwrap_or (option_map (λ (c : Car). c.cell) o) 0) (sym (same k h))

  module _ (count : ℕ) (some : 0 < count) (lane : IsLane old list count) (empty : seen_at old list 0 ≡ None) where
    falls : IsFalling (cell_at new) count (list_at old list)
    falls = falling-agree (cell_at old) (cell_at new) count (list_at old list) same_cell lane.falls

    nobody : key_at (cell_at old) (list_at old list) 0 ≡ None
    nobody = none-there old list count 0 whole lane empty

    above_old : (xs : List ℕ) → ((k : ℕ) → Has xs k → cell_at old k ≡ cell_at new k) → AllAbove (cell_at old) 0 xs → AllAbove (cell_at new) 0 xs
    above_old [] alike a = tt
    above_old (x ∷ xs) alike a = (let e = alike x ([], xs, refl) in let h = a.0 in omega arith, above_old xs (λ k h. alike k (has-later x k xs h)) a.1)

    above : AllAbove (cell_at new) 0 (list_at old list)
    above = above_old (list_at old list) same_cell (all-above (cell_at old) (list_at old list) nobody)

    still-falls : IsFalling (cell_at new) count (list_at new list)
    still-falls = subst (IsFalling (cell_at new) count) (sym listed) (falling-push (cell_at new) count (list_at old list) key falls (rw key_cell above) (rw key_cell some))

    here : seen_at new list 0 ≡ Some (vehicle_of car)
    here =
        ap (λ l. option_and_then (vehicle_with new) (key_at (cell_at new) l 0)) listed
        ∙ ap (option_and_then (vehicle_with new)) (key_at-append (cell_at new) (list_at old list) (key ∷ []) 0 (above-none (cell_at new) 0 (list_at old list) 0 above (omega arith)) ∙ cond-true _ _ _ (eq-eqb (cell_at new key) 0 key_cell))
        ∙ ap (option_map vehicle_of) is

    elsewhere : (z : ℕ) → z ≢ 0 → seen_at new list z ≡ seen_at old list z
    elsewhere z ne =
        ap (λ l. option_and_then (vehicle_with new) (key_at (cell_at new) l z)) listed
        ∙ ap (option_and_then (vehicle_with new)) (key_at-drop (cell_at new) (list_at old list) key [] z (λ e. ne (sym e ∙ key_cell)))
        ∙ ap (λ l. option_and_then (vehicle_with new) (key_at (cell_at new) l z)) (append-nil (list_at old list))
        ∙ found-agree (cell_at new) (cell_at old) (vehicle_with new) (vehicle_with old) (list_at old list) z (λ k h. sym (same_cell k h)) (λ k h. ap (option_map vehicle_of) (same k h))

    pub cells-set : cells_at new list count ≡ set (cells_at old list count) 0 (Some (vehicle_of car))
    unfolding cells_at
    cells-set = sym (fill_by_all (seen_at new list) (set (cells_at old list count) 0 (Some (vehicle_of car))) count None (length-set (cells_at old list count) 0 (Some (vehicle_of car)) ∙ length-map-range_with_len (seen_at old list) 0 count) at)
      where
        at : (k : ℕ) → k < count → get_or (set (cells_at old list count) 0 (Some (vehicle_of car))) k None ≡ seen_at new list k
        at k h = elim (cases_eq k 0) as (λ _. get_or (set (cells_at old list count) 0 (Some (vehicle_of car))) k None ≡ seen_at new list k) [
          | inl e ↦ subst (λ j. get_or (set (cells_at old list count) 0 (Some (vehicle_of car))) j None ≡ seen_at new list j) (sym e) (get_or-set_same (cells_at old list count) 0 (Some (vehicle_of car)) None (rw (cells-length old list count whole lane.falls) some) ∙ sym here)
          | inr ne ↦ get_or-set_other (cells_at old list count) 0 k (Some (vehicle_of car)) None ne ∙ cells-read old list count whole lane.falls k ∙ sym (elsewhere k ne)
        ]

    pub still-lane : is_covered (cells_at old list count) 0 ≡ false → IsLane new list count
    still-lane uncovered = record {
      falls = still-falls;
      disjoint = subst AreDisjoint (sym cells-set) (uncovered-entry (cells_at old list count) (vehicle_of car) uncovered lane.disjoint);
    }

  pub comes-in : ComesIn (vehicle_of car) list old new
  comes-in count some lane uncovered = (let none = sym (cells-read old list count whole lane.falls 0) ∙ uncovered-empty (cells_at old list count) 0 uncovered in (still-lane count some lane none uncovered, cells-set count some lane none))
