-- The first key of a list leaves it.
use Rattle.std.proofs.Common.{◌≡◌, ◌≢◌, ℕ, ◌+◌, ◌<◌, List, [], ◌∷◌, ◌++◌, length, get_or, set, Option, Some, None, IsSomeAnd, refl, sym, ap, subst, ◌∙◌, arith, slice_get, drop, option_map, option_and_then}
use Rattle.std.proofs.lemmas.List.{get_or-set_other}
use Rattle.street_base.specs.declared.car.Car.{Car}
use Rattle.street_yard.specs.Prelude.{YardEntry, Yard, list_at, entry_at, car_of, list_on, list_set, car_set, without, first_or, Has, IsLoose, IsWhole}
use Rattle.street_yard.proofs.YardLemmas.{list-written, list-other, on_within, without-is, car_of-list_set, car_of-car_set, car_of-car_set_other, entry-kept_set, entry-kept_set_other, head-of, head-on}
use Rattle.street_lanes.specs.Prelude.{Touches, LetsGo, Departs}
use Rattle.street_lanes.proofs.Cars.{cars-none, get-first, cars-rest}
use Rattle.street_lanes.proofs.Touches.{touch-none-at-all, touch-trans, touch-wider, touch-more, relisted, taken, written}
use Rattle.street_lanes.proofs.Loose.{loose-but, loose-placed, loose-gone}
use Rattle.street_lanes.proofs.ComesIn.{comes-in}

-- a yard after the first key of a list was unlinked
module _ (y u : Yard) (list key from : ℕ) (whole : IsWhole y) (first : first_or (list_at y list) None ≡ Some key) (on : list_on y key ≡ Some from)
    (after : u ≡ record y { lists = set y.lists from (without key (list_at y from)); kept = list_set y.kept key None }) where
  same_from : from ≡ list
  same_from = (let both : ◌≡◌ {A = Option ℕ} (Some from) (Some list) = sym on ∙ head-on y list key whole first in cc)

  pub unlinked : u ≡ record y { lists = set y.lists list (without key (list_at y list)); kept = list_set y.kept key None }
  unlinked = subst (λ l. u ≡ record y { lists = set y.lists l (without key (list_at y l)); kept = list_set y.kept key None }) same_from after

  pub unlink-touches : Touches (list ∷ []) y u
  unlink-touches = subst (Touches (list ∷ []) y) (sym unlinked) (relisted y list (without key (list_at y list)) (list_set y.kept key None) (λ k. car_of-list_set y.kept key None k))

  pub unlink-cars : (k : ℕ) → car_of u k ≡ car_of y k
  unlink-cars k = ap (λ w. car_of w k) unlinked ∙ car_of-list_set y.kept key None k

  abbrev pub rest_of : List ℕ
  rest_of = (head-of y list key first).0

  pub unlink-rest : list_at u list ≡ rest_of
  unlink-rest =
      ap (λ w. list_at w list) unlinked
      ∙ list-written y.lists list (without key (list_at y list)) (on_within y key list whole (head-on y list key whole first))
      ∙ without-is y list key [] rest_of whole (head-of y list key first).1

  pub unlink-others : (k : ℕ) → k ≢ key → entry_at u k ≡ entry_at y k
  unlink-others k ne = ap (λ w. entry_at w k) unlinked ∙ entry-kept_set_other y.kept key (λ e. record e { list = None }) k ne

  loose-of : (o : Option YardEntry) → option_and_then (λ (e : YardEntry). e.list) (option_map (λ (e : YardEntry). record e { list = None }) o) ≡ None
  loose-of None = refl
  loose-of (Some e) = refl

  pub unlink-loose : list_on u key ≡ None
  unlink-loose = ap (λ w. list_on w key) unlinked ∙ ap (option_and_then (λ (e : YardEntry). e.list)) (entry-kept_set y.kept key (λ e. record e { list = None })) ∙ loose-of (get_or y.kept key None)

pub loose-is : (o : Option YardEntry) (car : Car) → option_map (λ (e : YardEntry). e.car) o ≡ Some car → option_and_then (λ (e : YardEntry). e.list) o ≡ None → IsSomeAnd o (λ (e : YardEntry). e.list ≡ None)
loose-is None car is off = cc
loose-is (Some e) car is off = off

-- nobody is on the list
pub nobody-goes : (y : Yard) (list : ℕ) → first_or (list_at y list) None ≡ None → LetsGo list y y None
nobody-goes y list none = (let e = cars-none y list none in record {
  touches = touch-none-at-all (list ∷ []) y;
  room = omega arith;
  none_loose = λ none. none;
  car = sym (ap (λ cs. slice_get cs 0) e);
  rest = e ∙ sym (ap (drop 1) e);
})

-- the first car of a list is taken out
pub lets-go : (y u new : Yard) (list key from : ℕ) (car : Car) → IsWhole y → first_or (list_at y list) None ≡ Some key → list_on y key ≡ Some from
    → u ≡ record y { lists = set y.lists from (without key (list_at y from)); kept = list_set y.kept key None } → IsWhole u
    → car_of u key ≡ Some car → new ≡ record u { kept = set u.kept key None; room = u.room + 1 } → LetsGo list y new (Some car)
lets-go y u new list key from car whole first on after still is gone =
    let loose : IsLoose u key = loose-is (entry_at u key) car is (unlink-loose y u list key from whole first on after) in
    let touch = unlink-touches y u list key from whole first on after in
    let took : Touches [] u new = subst (Touches [] u) (sym gone) (taken u key still loose) in
    let was : car_of y key ≡ Some car = sym (unlink-cars y u list key from whole first on after key) ∙ is in
    let others : (k : ℕ) → k ≢ key → car_of new k ≡ car_of y k = λ k ne. ap (λ w. car_of w k) gone ∙ ap (option_map (λ (e : YardEntry). e.car)) (get_or-set_other u.kept key k None None ne) ∙ unlink-cars y u list key from whole first on after k in
    record {
      touches = touch-trans (list ∷ []) y u new touch (touch-more (list ∷ []) u new took);
      room = ap (λ w. w.room) gone ∙ ap (λ w. w.room + 1) (unlinked y u list key from whole first on after);
      none_loose = λ none. loose-gone y u new key (unlink-others y u list key from whole first on after) (ap (λ w. w.kept) gone) (loose-but y key none);
      car = sym (get-first y list key car first was);
      rest = cars-rest y new list key (rest_of y u list key from whole first on after) car whole (head-of y list key first).1 (ap (λ w. list_at w list) gone ∙ unlink-rest y u list key from whole first on after) was (λ k ne h. others k ne);
    }

abbrev stands_first : Car → Car
stands_first c = record c { cell = 0; speed = 0 }

-- the first of one list stands in cell 0 of another
pub departs : (y u d new : Yard) (list cells key from : ℕ) (car : Car) → IsWhole y → cells < length y.lists → cells < list → first_or (list_at y list) None ≡ Some key → car_of y key ≡ Some car → list_on y key ≡ Some from
    → u ≡ record y { lists = set y.lists from (without key (list_at y from)); kept = list_set y.kept key None } → IsWhole u
    → d ≡ record u { kept = car_set u.kept key stands_first }
    → new ≡ record d { lists = set d.lists cells (list_at d cells ++ key ∷ []); kept = list_set d.kept key (Some cells) } → Departs list cells car y new
departs y u d new list cells key from car whole there apart first was on after still driven pushed =
    let touch = unlink-touches y u list key from whole first on after in
    let off = unlink-loose y u list key from whole first on after in
    let wrote : Touches [] u d = subst (Touches [] u) (sym driven) (written u key stands_first still off (λ c. refl)) in
    let joins : Touches (cells ∷ []) d new = subst (Touches (cells ∷ []) d) (sym pushed) (relisted d cells (list_at d cells ++ key ∷ []) (list_set d.kept key (Some cells)) (λ k. car_of-list_set d.kept key (Some cells) k)) in
    let ne : cells ≢ list = λ e. omega arith in
    let back : list ≢ cells = λ e. omega arith in
    let d_cells : list_at d cells ≡ list_at y cells = ap (λ w. list_at w cells) driven ∙ ap (λ w. list_at w cells) (unlinked y u list key from whole first on after) ∙ list-other y.lists list cells (without key (list_at y list)) ne in
    let long : cells < length d.lists = omega (arith, touch.count, wrote.count, there) in
    let new_cells : list_at new cells ≡ list_at y cells ++ key ∷ [] = ap (λ w. list_at w cells) pushed ∙ list-written d.lists cells (list_at d cells ++ key ∷ []) long ∙ ap (λ l. l ++ key ∷ []) d_cells in
    let new_list : list_at new list ≡ rest_of y u list key from whole first on after = ap (λ w. list_at w list) pushed ∙ list-other d.lists cells list (list_at d cells ++ key ∷ []) back ∙ ap (λ w. list_at w list) driven ∙ unlink-rest y u list key from whole first on after in
    let pushed_car : (k : ℕ) → car_of new k ≡ car_of d k = λ k. ap (λ w. car_of w k) pushed ∙ car_of-list_set d.kept key (Some cells) k in
    let others : (k : ℕ) → k ≢ key → car_of new k ≡ car_of y k = λ k far. pushed_car k ∙ ap (λ w. car_of w k) driven ∙ car_of-car_set_other u key stands_first k far ∙ unlink-cars y u list key from whole first on after k in
    let is : car_of new key ≡ Some (stands_first car) = pushed_car key ∙ ap (λ w. car_of w key) driven ∙ car_of-car_set u key stands_first ∙ ap (option_map stands_first) (unlink-cars y u list key from whole first on after key ∙ was) in
    let on_other : (k : ℕ) → Has (list_at y cells) k → k ≢ key = λ k h e. (let a = whole.names k cells h in let b = head-on y list key whole first in let both : ◌≡◌ {A = Option ℕ} (Some cells) (Some list) = sym a ∙ ap (list_on y) e ∙ b in let same : cells ≡ list = cc in ne same) in
    record {
      touches = touch-trans (list ∷ cells ∷ []) y u new (touch-wider (list ∷ []) (list ∷ cells ∷ []) y u (λ l away. (away.0, tt)) touch)
          (touch-trans (list ∷ cells ∷ []) u d new (touch-more (list ∷ cells ∷ []) u d wrote) (touch-wider (cells ∷ []) (list ∷ cells ∷ []) d new (λ l away. away.1) joins));
      room = ap (λ w. w.room) pushed ∙ ap (λ w. w.room) driven ∙ ap (λ w. w.room) (unlinked y u list key from whole first on after);
      none_loose = λ none. loose-placed y d new key cells
          (λ k far. ap (λ w. entry_at w k) driven ∙ entry-kept_set_other u.kept key (λ e. record e { car = stands_first e.car }) k far ∙ unlink-others y u list key from whole first on after k far)
          (ap (λ w. w.kept) pushed) (loose-but y key none);
      rest = cars-rest y new list key (rest_of y u list key from whole first on after) car whole (head-of y list key first).1 new_list was (λ k far h. others k far);
      cells = comes-in y new cells key (stands_first car) whole new_cells (λ k h. others k (on_other k h)) is refl;
    }
