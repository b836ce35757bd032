-- Where the keys of a falling list are.
use Rattle.std.proofs.Common.{◌≡◌, ◌≢◌, ℕ, ◌-◌, ◌<◌, ◌≤◌, true, false, cond, List, [], ◌∷◌, ◌++◌, length, Option, Some, None, refl, sym, ap, subst, ◌∙◌, inl, inr, arith, ◌==◌, replicate, option_map, option_and_then, unwrap_or}
use Rattle.std.proofs.lemmas.Bool.{cases_Bool, cases_eq, cases_lt, cond-true, cond-false, eq-eqb, ne_eqb}
use Rattle.std.proofs.lemmas.List.{get_or_past, get_or-replicate, length-replicate}
use Rattle.std.proofs.lemmas.List.FromFn.{get_or-map-range_with_len, length-map-range_with_len, fill_by_all}
use Rattle.street_base.specs.declared.car.Car.{Car}
use Rattle.street_yard.specs.Prelude.{Yard, list_at, entry_at, car_of, Has, IsWhole, cell_at, rear_at, vehicle_with, key_at, seen_at, cells_at, IsFalling, IsLane, AllAbove}
use Rattle.street_base.specs.Prelude.{Vehicle, vehicle_of, vehicle_at, rear, is_covered, AreDisjoint}
use Rattle.street_base.proofs.ApartLemmas.{nobody-apart}
use Rattle.street_base.proofs.CoverLemmas.{rear-le, covered-run, covered-by}
use Rattle.street_yard.proofs.Keys.{has-later}
use Rattle.street_yard.proofs.YardLemmas.{some_car, on_has_entry}

module _ (cell : ℕ → ℕ) where
  pub falling-below : (bound : ℕ) (xs : List ℕ) (x : ℕ) → IsFalling cell bound xs → bound ≤ x → key_at cell xs x ≡ None
  falling-below bound [] x f h = refl
  falling-below bound (k ∷ ks) x f h = (let a = f.0 in cond-false _ _ _ (ne_eqb (cell k) x (λ e. absurd (omega arith))) ∙ falling-below (cell k) ks x f.1 (omega arith))

  pub above-none : (x : ℕ) (xs : List ℕ) (z : ℕ) → AllAbove cell x xs → z ≤ x → key_at cell xs z ≡ None
  above-none x [] z a h = refl
  above-none x (k ∷ ks) z a h = (let b = a.0 in cond-false _ _ _ (ne_eqb (cell k) z (λ e. absurd (omega arith))) ∙ above-none x ks z a.1 h)

  pub key_at-append : (us vs : List ℕ) (x : ℕ) → key_at cell us x ≡ None → key_at cell (us ++ vs) x ≡ key_at cell vs x
  key_at-append [] vs x e = refl
  key_at-append (u ∷ us) vs x e = elim (cases_eq (cell u) x) as (λ _. key_at cell ((u ∷ us) ++ vs) x ≡ key_at cell vs x) [
    | inl s ↦ (let bad : ◌≡◌ {A = Option ℕ} (Some u) None = sym (cond-true _ _ _ (eq-eqb (cell u) x s)) ∙ e in absurd (cc))
    | inr ne ↦ cond-false _ _ _ (ne_eqb (cell u) x ne) ∙ key_at-append us vs x (sym (cond-false _ _ _ (ne_eqb (cell u) x ne)) ∙ e)
  ]

  pub falling-wider : (bound more : ℕ) (xs : List ℕ) → bound ≤ more → IsFalling cell bound xs → IsFalling cell more xs
  falling-wider bound more [] h f = tt
  falling-wider bound more (k ∷ ks) h f = ((let a = f.0 in omega arith), f.1)

  pub falling-split : (bound : ℕ) (us : List ℕ) (k : ℕ) (vs : List ℕ) → IsFalling cell bound (us ++ k ∷ vs) → AllAbove cell (cell k) us × (cell k < bound) × IsFalling cell (cell k) vs
  falling-split bound [] k vs f = (tt, f.0, f.1)
  falling-split bound (u ∷ us) k vs f = (let r = falling-split (cell u) us k vs f.1 in ((r.1, r.0), (let a = r.1 in let b = f.0 in omega arith), r.2))

  pub key_at-is : (xs : List ℕ) (x k : ℕ) → key_at cell xs x ≡ Some k → (cell k ≡ x) × Has xs k
  key_at-is [] x k e = absurd (cc)
  key_at-is (u ∷ us) x k e = elim (cases_eq (cell u) x) as (λ _. (cell k ≡ x) × Has (u ∷ us) k) [
    | inl s ↦ (let both : ◌≡◌ {A = Option ℕ} (Some u) (Some k) = sym (cond-true _ _ _ (eq-eqb (cell u) x s)) ∙ e in let same : u ≡ k = cc in (ap cell (sym same) ∙ s, ([], us, ap (λ j. j ∷ us) same)))
    | inr ne ↦ (let r = key_at-is us x k (sym (cond-false _ _ _ (ne_eqb (cell u) x ne)) ∙ e) in (r.0, has-later u k us r.1))
  ]

  pub key_at-split : (bound : ℕ) (us : List ℕ) (k : ℕ) (vs : List ℕ) → IsFalling cell bound (us ++ k ∷ vs) → key_at cell (us ++ k ∷ vs) (cell k) ≡ Some k
  key_at-split bound us k vs f = (let r = falling-split bound us k vs f in key_at-append us (k ∷ vs) (cell k) (above-none (cell k) us (cell k) r.0 (omega arith)) ∙ cond-true _ _ _ (eq-eqb (cell k) (cell k) refl))

-- a rear is no further than its front
rear-back : (o : Option Car) → unwrap_or (option_map (λ (c : Car). c.cell - (c.size - 1)) o) 0 ≤ unwrap_or (option_map (λ (c : Car). c.cell) o) 0
rear-back None = omega arith
rear-back (Some c) = omega arith

pub rear-under : (y : Yard) (k : ℕ) → rear_at y k ≤ cell_at y k
rear-under y k = rear-back (car_of y k)

-- the cells of a falling list
module _ (y : Yard) (n count : ℕ) (whole : IsWhole y) (falls : IsFalling (cell_at y) count (list_at y n)) where
  pub cells-length : length (cells_at y n count) ≡ count
  unfolding cells_at
  cells-length = length-map-range_with_len (seen_at y n) 0 count

  pub cells-read : (x : ℕ) → vehicle_at (cells_at y n count) x ≡ seen_at y n x
  unfolding cells_at
  cells-read x = elim (cases_lt x count) as (λ _. vehicle_at (cells_at y n count) x ≡ seen_at y n x) [
    | inl h ↦ get_or-map-range_with_len (seen_at y n) 0 count x x None h (omega arith)
    | inr h ↦ get_or_past (cells_at y n count) x None (rw cells-length h) ∙ sym (ap (option_and_then (vehicle_with y)) (falling-below (cell_at y) count (list_at y n) x falls h))
  ]

  pub seen-key : (x k : ℕ) → key_at (cell_at y) (list_at y n) x ≡ Some k → (v : Vehicle) × (vehicle_with y k ≡ Some v) × (vehicle_at (cells_at y n count) x ≡ Some v)
  seen-key x k e =
      let at = key_at-is (cell_at y) (list_at y n) x k e in
      let car = some_car (entry_at y k) (on_has_entry y k n (whole.names k n at.1)) in
      let v : vehicle_with y k ≡ Some (vehicle_of car.0) = ap (option_map vehicle_of) car.1 in
      (vehicle_of car.0, v, cells-read x ∙ ap (option_and_then (vehicle_with y)) e ∙ v)

  pub seen-none : (x : ℕ) → key_at (cell_at y) (list_at y n) x ≡ None → vehicle_at (cells_at y n count) x ≡ None
  seen-none x e = cells-read x ∙ ap (option_and_then (vehicle_with y)) e

  rear-of : (o : Option Car) (v : Vehicle) → option_map vehicle_of o ≡ Some v → rear (unwrap_or (option_map (λ (c : Car). c.cell) o) 0) v ≡ unwrap_or (option_map (λ (c : Car). c.cell - (c.size - 1)) o) 0
  rear-of None v e = absurd (cc)
  rear-of (Some c) v e = (let same : vehicle_of c ≡ v = cc in ap (λ (u : Vehicle). c.cell - (u.size - 1)) (sym same))

  -- the vehicle that stands in a key's cell reaches down to the key's rear
  pub stands-key : (x k : ℕ) → key_at (cell_at y) (list_at y n) x ≡ Some k → (v : Vehicle) × (vehicle_at (cells_at y n count) x ≡ Some v) × (rear x v ≡ rear_at y k)
  stands-key x k e =
      let s = seen-key x k e in
      let at = (key_at-is (cell_at y) (list_at y n) x k e).0 in
      (s.0, s.2, subst (λ z. rear z s.0 ≡ rear_at y k) at (rear-of (car_of y k) s.0 s.1))

  -- a key's vehicle covers its cells from front to rear
  pub covered-key : (x k z : ℕ) → key_at (cell_at y) (list_at y n) x ≡ Some k → rear_at y k ≤ z → z ≤ x → is_covered (cells_at y n count) z ≡ true
  covered-key x k z e l h = (let s = stands-key x k e in let r = s.2 in covered-run (cells_at y n count) x z s.0 s.1 (omega arith) h)

  -- where no front stands from a cell on, nobody covers it
  pub uncovered-past : (z : ℕ) → ((w : ℕ) → z ≤ w → key_at (cell_at y) (list_at y n) w ≡ None) → is_covered (cells_at y n count) z ≡ false
  uncovered-past z none = elim (cases_Bool (is_covered (cells_at y n count) z)) as (λ _. is_covered (cells_at y n count) z ≡ false) [
    | inl t ↦ (
        let by = covered-by (cells_at y n count) z t in
        let bad : ◌≡◌ {A = Option Vehicle} (Some by.1) None = sym by.2 ∙ seen-none by.0 (none by.0 by.4) in absurd (cc))
    | inr f ↦ f
  ]

  -- nor where the next front from the cell on is that of a key whose rear lies above it
  pub uncovered-before : AreDisjoint (cells_at y n count) → (x k z : ℕ) → key_at (cell_at y) (list_at y n) x ≡ Some k → z < rear_at y k → ((w : ℕ) → z ≤ w → w < x → key_at (cell_at y) (list_at y n) w ≡ None) → is_covered (cells_at y n count) z ≡ false
  uncovered-before disjoint x k z e low none = elim (cases_Bool (is_covered (cells_at y n count) z)) as (λ _. is_covered (cells_at y n count) z ≡ false) [
    | inl t ↦ absurd (
        let by = covered-by (cells_at y n count) z t in
        let reach = by.3 in
        let s = stands-key x k e in
        let r = s.2 in
        let le = rear-le x s.0 in
        elim (cases_lt by.0 x) as (λ _. ⊥) [
          | inl below ↦ (let bad : ◌≡◌ {A = Option Vehicle} (Some by.1) None = sym by.2 ∙ seen-none by.0 (none by.0 by.4 below) in cc)
          | inr from ↦ elim (cases_eq by.0 x) as (λ _. ⊥) [
            | inl same ↦ (
                let both : Some by.1 ≡ Some s.0 = sym by.2 ∙ ap (vehicle_at (cells_at y n count)) same ∙ s.1 in
                let one : by.1 ≡ s.0 = cc in
                let reach_x : rear x s.0 ≤ z = subst (λ (v : Vehicle). rear x v ≤ z) one (subst (λ w. rear w by.1 ≤ z) same reach) in
                omega arith)
            | inr other ↦ (let apart = disjoint x by.0 s.0 by.1 (omega arith) s.1 by.2 in omega arith)
          ]
        ])
    | inr f ↦ f
  ]

-- two ways to reckon cells that agree at the keys

pub falling-agree : (f g : ℕ → ℕ) (bound : ℕ) (xs : List ℕ) → ((k : ℕ) → Has xs k → f k ≡ g k) → IsFalling f bound xs → IsFalling g bound xs
falling-agree f g bound [] same h = tt
falling-agree f g bound (x ∷ xs) same h =
    let e : f x ≡ g x = same x ([], xs, refl) in
    ((let a = h.0 in omega arith), subst (λ b. IsFalling g b xs) e (falling-agree f g (f x) xs (λ k on. same k (has-later x k xs on)) h.1))

-- who is found by cell
abbrev pub found : (ℕ → ℕ) → (ℕ → Option Vehicle) → List ℕ → ℕ → Option Vehicle
found cell who xs z = option_and_then who (key_at cell xs z)

pub found-agree : (f g : ℕ → ℕ) (who whom : ℕ → Option Vehicle) (xs : List ℕ) (z : ℕ) → ((k : ℕ) → Has xs k → f k ≡ g k) → ((k : ℕ) → Has xs k → who k ≡ whom k) → found f who xs z ≡ found g whom xs z
found-agree f g who whom [] z same alike = refl
found-agree f g who whom (x ∷ xs) z same alike =
    let e : f x ≡ g x = same x ([], xs, refl) in
    let rest : found f who xs z ≡ found g whom xs z = found-agree f g who whom xs z (λ k h. same k (has-later x k xs h)) (λ k h. alike k (has-later x k xs h)) in
    elim (cases_eq (f x) z) as (λ _. found f who (x ∷ xs) z ≡ found g whom (x ∷ xs) z) [
      | inl s ↦ ap (option_and_then who) (cond-true _ _ _ (eq-eqb (f x) z s)) ∙ alike x ([], xs, refl) ∙ sym (ap (option_and_then whom) (cond-true _ _ _ (eq-eqb (g x) z (sym e ∙ s))))
      | inr ne ↦ ap (option_and_then who) (cond-false _ _ _ (ne_eqb (f x) z ne)) ∙ rest ∙ sym (ap (option_and_then whom) (cond-false _ _ _ (ne_eqb (g x) z (λ s. ne (e ∙ s)))))
    ]

-- a key of another cell is passed by
pub key_at-drop : (f : ℕ → ℕ) (us : List ℕ) (k : ℕ) (vs : List ℕ) (z : ℕ) → f k ≢ z → key_at f (us ++ k ∷ vs) z ≡ key_at f (us ++ vs) z
key_at-drop f [] k vs z ne = cond-false _ _ _ (ne_eqb (f k) z ne)
key_at-drop f (u ∷ us) k vs z ne = ap (cond (f u == z) (Some u)) (key_at-drop f us k vs z ne)

-- a key's cell is empty without it
pub key_at-gone : (f : ℕ → ℕ) (bound : ℕ) (us : List ℕ) (k : ℕ) (vs : List ℕ) → IsFalling f bound (us ++ k ∷ vs) → key_at f (us ++ vs) (f k) ≡ None
key_at-gone f bound us k vs h =
    let s = falling-split f bound us k vs h in
    key_at-append f us vs (f k) (above-none f (f k) us (f k) s.0 (omega arith)) ∙ falling-below f (f k) vs (f k) s.2 (omega arith)

-- a list that another yard has too, with equal cars, stands there for the same cells
module _ (old new : Yard) (n : ℕ) (same_list : list_at new n ≡ list_at old n) (same_car : (k : ℕ) → Has (list_at old n) k → car_of new k ≡ car_of old k) where
  same_cell : (k : ℕ) → Has (list_at old n) k → cell_at old k ≡ cell_at new k
  same_cell k h = ap (λ o. unwrap_or (option_map (λ (c : Car). c.cell) o) 0) (sym (same_car k h))

  seen-agree : (x : ℕ) → seen_at new n x ≡ seen_at old n x
  seen-agree x =
      ap (λ l. option_and_then (vehicle_with new) (key_at (cell_at new) l x)) same_list
      ∙ found-agree (cell_at new) (cell_at old) (vehicle_with new) (vehicle_with old) (list_at old n) x (λ k h. sym (same_cell k h)) (λ k h. ap (option_map vehicle_of) (same_car k h))

  pub cells-agree : (count : ℕ) → cells_at new n count ≡ cells_at old n count
  unfolding cells_at
  cells-agree count = fill_by_all (seen_at old n) (cells_at new n count) count None (length-map-range_with_len (seen_at new n) 0 count) (λ k h. get_or-map-range_with_len (seen_at new n) 0 count k k None h (omega arith) ∙ seen-agree k)

  pub IsLane-agree : (count : ℕ) → IsLane old n count → IsLane new n count
  IsLane-agree count lane = record {
    falls = subst (IsFalling (cell_at new) count) (sym same_list) (falling-agree (cell_at old) (cell_at new) count (list_at old n) same_cell lane.falls);
    disjoint = subst AreDisjoint (sym (cells-agree count)) lane.disjoint;
  }

-- ---- longer, and empty

-- a key that lies below all of a falling list comes behind them
pub falling-push : (f : ℕ → ℕ) (bound : ℕ) (xs : List ℕ) (x : ℕ) → IsFalling f bound xs → AllAbove f (f x) xs → f x < bound → IsFalling f bound (xs ++ x ∷ [])
falling-push f bound [] x falls above low = (low, tt)
falling-push f bound (y ∷ ys) x falls above low = (falls.0, falling-push f (f y) ys x falls.1 above.1 above.0)

pub no-cells : (y : Yard) (list count : ℕ) → list_at y list ≡ [] → cells_at y list count ≡ replicate count None
unfolding cells_at
no-cells y list count none = sym (fill_by_all (seen_at y list) (replicate count None) count None (length-replicate count None) (λ k h. get_or-replicate count k None None h ∙ sym (ap (λ l. seen_in l k) none)))
  where
    seen_in : List ℕ → ℕ → Option Vehicle
    seen_in l k = option_and_then (vehicle_with y) (key_at (cell_at y) l k)

-- an empty list stands for a lane with nobody in its cells
pub nobody-lane : (y : Yard) (list count : ℕ) → list_at y list ≡ [] → IsLane y list count
nobody-lane y list count empty = record {
  falls = subst (IsFalling (cell_at y) count) (sym empty) tt;
  disjoint = subst AreDisjoint (sym (no-cells y list count empty)) (nobody-apart count);
}
