-- Whether cell 0 is free, by the last key of a list.
use Rattle.std.proofs.Common.{◌≡◌, ◌≢◌, ℕ, ◌-◌, ◌<◌, Bool, true, false, List, [], ◌∷◌, ◌++◌, Option, Some, None, IsSome, refl, sym, ap, subst, ◌∙◌, inl, inr, arith, not, ◌&&◌, option_map, unwrap_or}
use Rattle.std.proofs.lemmas.Bool.{cond-false, ne_eqb}
use Rattle.street_base.specs.declared.car.Car.{Car}
use Rattle.street_base.specs.Prelude.{Cells, is_covered, is_free}
use Rattle.street_gap.specs.declared.closures.Stretch.{Stretch}
use Rattle.street_gap.specs.Prelude.{is_in, IsWithin, closed_marks}
use Rattle.street_gap.proofs.Marks.{closed_marks-at}
use Rattle.street_yard.specs.Prelude.{Yard, list_at, entry_at, car_of, last_or, IsWhole, cell_at, rear_at, key_at, cells_at, IsFalling, IsLane}
use Rattle.street_yard.proofs.Keys.{snoc_cases, last_or-push}
use Rattle.street_yard.proofs.YardLemmas.{on_has_entry}
use Rattle.street_yard.proofs.FallingLists.{falling-split, key_at-split, key_at-append, above-none, covered-key, uncovered-past, uncovered-before}

-- a list with a last key ends with it
pub last-split : (xs : List ℕ) (k : ℕ) → last_or xs None ≡ Some k → (us : List ℕ) × (xs ≡ us ++ k ∷ [])
last-split xs k e = elim (snoc_cases xs) as (λ _. (us : List ℕ) × (xs ≡ us ++ k ∷ [])) [
  | inl none ↦ absurd (let bad : ◌≡◌ {A = Option ℕ} (Some k) None = sym e ∙ ap (λ l. last_or l None) none in cc)
  | inr s ↦ (
      let f : ◌≡◌ {A = Option ℕ} (Some k) (Some s.1) = sym e ∙ ap (λ l. last_or l None) s.2 ∙ last_or-push s.0 s.1 None in
      let same : s.1 ≡ k = cc in
      (s.0, s.2 ∙ ap (λ j. s.0 ++ j ∷ []) same))
]

pub no-last : (xs : List ℕ) → last_or xs None ≡ None → xs ≡ []
no-last xs e = elim (snoc_cases xs) as (λ _. xs ≡ []) [
  | inl none ↦ none
  | inr s ↦ (let bad : ◌≡◌ {A = Option ℕ} (Some s.1) None = sym (ap (λ l. last_or l None) s.2 ∙ last_or-push s.0 s.1 None) ∙ e in absurd (cc))
]

pub last-held : (y : Yard) (list k : ℕ) → IsWhole y → last_or (list_at y list) None ≡ Some k → IsSome (entry_at y k)
last-held y list k whole e = (let s = last-split (list_at y list) k e in on_has_entry y k list (whole.names k list (s.0, [], s.1)))

-- what is free, by who is there and what is closed
free-by : (cells : Cells) (closed : List Stretch) (count : ℕ) (covered shut : Bool) → IsWithin closed count → is_covered cells 0 ≡ covered → shut ≡ is_in closed 0 → is_free (record { cells = cells; closed = closed_marks closed count }) 0 ≡ (not covered && not shut)
free-by cells closed count covered shut within a b = rw (a, closed_marks-at closed count 0 within, b) refl

module _ (y : Yard) (list count : ℕ) (closed : List Stretch) (whole : IsWhole y) (lane : IsLane y list count) where
  module _ (last rear : ℕ) (at_end : last_or (list_at y list) None ≡ Some last) (reads : option_map (λ (c : Car). c.cell - (c.size - 1)) (car_of y last) ≡ Some rear) where
    low : rear_at y last ≡ rear
    low = ap (λ o. unwrap_or o 0) reads

    split : (us : List ℕ) × (list_at y list ≡ us ++ last ∷ [])
    split = last-split (list_at y list) last at_end

    falls : IsFalling (cell_at y) count (split.0 ++ last ∷ [])
    falls = subst (IsFalling (cell_at y) count) split.1 lane.falls

    here : key_at (cell_at y) (list_at y list) (cell_at y last) ≡ Some last
    here = ap (λ l. key_at (cell_at y) l (cell_at y last)) split.1 ∙ key_at-split (cell_at y) count split.0 last [] falls

    nobody-lower : (w : ℕ) → w < cell_at y last → key_at (cell_at y) (list_at y list) w ≡ None
    nobody-lower w h =
        ap (λ l. key_at (cell_at y) l w) split.1
        ∙ key_at-append (cell_at y) split.0 (last ∷ []) w (above-none (cell_at y) (cell_at y last) split.0 w (falling-split (cell_at y) count split.0 last [] falls).0 (omega arith))
        ∙ cond-false _ _ _ (ne_eqb (cell_at y last) w (λ e. absurd (omega arith)))

    taken : rear ≡ 0 → is_covered (cells_at y list count) 0 ≡ true
    taken zero = covered-key y list count whole lane.falls (cell_at y last) last 0 here (let e = low in omega arith) (omega arith)

    -- the last has the least rear
    clear : rear ≢ 0 → is_covered (cells_at y list count) 0 ≡ false
    clear ne = uncovered-before y list count whole lane.falls lane.disjoint (cell_at y last) last 0 here (let e = low in omega arith) (λ w a b. nobody-lower w b)

  nobody : last_or (list_at y list) None ≡ None → is_covered (cells_at y list count) 0 ≡ false
  nobody e = uncovered-past y list count whole lane.falls 0 (λ w a. ap (λ l. key_at (cell_at y) l w) (no-last (list_at y list) e))

pub shut-by-last : (y : Yard) (list last count : ℕ) (closed : List Stretch) (rear : ℕ) → IsWhole y → IsLane y list count → last_or (list_at y list) None ≡ Some last → option_map (λ (c : Car). c.cell - (c.size - 1)) (car_of y last) ≡ Some rear → rear ≡ 0 → false ≡ is_free (record { cells = cells_at y list count; closed = closed_marks closed count }) 0
shut-by-last y list last count closed rear whole lane at_end reads zero = rw (taken y list count closed whole lane last rear at_end reads zero) refl

pub open-by-last : (y : Yard) (list last count : ℕ) (closed : List Stretch) (rear : ℕ) (shut : Bool) → IsWhole y → IsLane y list count → IsWithin closed count → last_or (list_at y list) None ≡ Some last → option_map (λ (c : Car). c.cell - (c.size - 1)) (car_of y last) ≡ Some rear → rear ≢ 0 → shut ≡ is_in closed 0 → not shut ≡ is_free (record { cells = cells_at y list count; closed = closed_marks closed count }) 0
open-by-last y list last count closed rear shut whole lane within at_end reads ne is = sym (free-by (cells_at y list count) closed count false shut within (clear y list count closed whole lane last rear at_end reads ne) is)

pub open-empty : (y : Yard) (list count : ℕ) (closed : List Stretch) (shut : Bool) → IsWhole y → IsLane y list count → IsWithin closed count → last_or (list_at y list) None ≡ None → shut ≡ is_in closed 0 → not shut ≡ is_free (record { cells = cells_at y list count; closed = closed_marks closed count }) 0
open-empty y list count closed shut whole lane within none is = sym (free-by (cells_at y list count) closed count false shut within (nobody y list count closed whole lane none) is)
