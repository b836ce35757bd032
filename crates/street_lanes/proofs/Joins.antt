-- A car comes in.
use Rattle.std.proofs.Common.{◌≡◌, ◌≢◌, ℕ, ◌+◌, ◌<◌, false, List, [], ◌∷◌, ◌++◌, length, get_or, set, Option, Some, None, refl, sym, ap, subst, ◌∙◌, inl, inr, arith, filter_map, map, option_map, option_and_then}
use Rattle.std.specs.List.{cons_option}
use Rattle.std.proofs.lemmas.List.{map-append, append_assoc}
use Rattle.std.proofs.lemmas.List.Elements.{filter_map-append}
use Rattle.street_base.specs.declared.car.Car.{Car}
use Rattle.street_base.specs.Prelude.{put_in_order}
use Rattle.street_yard.specs.Prelude.{YardEntry, Yard, list_at, entry_at, car_of, list_on, list_set, put_behind, first_or, last_or, Has, IsApart, IsOnList, IsWhole, Updates}
use Rattle.street_yard.proofs.Keys.{snoc_cases, last_or-push, has-behind, put_behind-last}
use Rattle.street_yard.proofs.YardLemmas.{list-written, car_of-list_set, mapped-same}
use Rattle.street_lanes.specs.Prelude.{waiting_of, AreInOrder, cars_on, Touches, IsShort, IsPlaceFor, Enters, Joins}
use Rattle.street_lanes.proofs.WaitingOrder.{LastNotAfter, LastNotAfter-push, GoesBeforeFirst, put-split}
use Rattle.street_lanes.proofs.Cars.{car_there}
use Rattle.street_lanes.proofs.Touches.{touch-trans, touch-more, relisted, admitted, not-loose}
use Rattle.street_lanes.proofs.Loose.{loose-but, loose-placed}
use Rattle.street_lanes.proofs.ComesIn.{comes-in}

-- the car with cell 0
abbrev at_begin : Car → Car
at_begin car = record car { cell = 0 }

-- a yard after a car was admitted
module _ (y a : Yard) (key : ℕ) (car : Car) (whole : IsWhole y) (short : IsShort key car) (vacant : entry_at y key ≡ None) (updates : Updates y a key (Some (record { car = car; mark = false; list = None }))) (lists : a.lists ≡ y.lists) where
  pub admit-touches : Touches [] y a
  admit-touches = admitted y a key car whole vacant updates lists short

  pub admit-car : car_of a key ≡ Some car
  admit-car = ap (option_map (λ (e : YardEntry). e.car)) updates.changed

  pub admit-others : (k : ℕ) → k ≢ key → car_of a k ≡ car_of y k
  admit-others k ne = ap (option_map (λ (e : YardEntry). e.car)) (updates.others k ne)

  pub admit-new : (list k : ℕ) → Has (list_at y list) k → k ≢ key
  admit-new list k h = not-loose y key list k whole (ap (option_and_then (λ (e : YardEntry). e.list)) vacant) h

pub enters : (y a new : Yard) (list key : ℕ) (car : Car) → IsWhole y → list < length y.lists → IsShort key car → entry_at y key ≡ None → Updates y a key (Some (record { car = at_begin car; mark = false; list = None })) → a.lists ≡ y.lists → a.room + 1 ≡ y.room
    → new ≡ record a { lists = set a.lists list (list_at a list ++ key ∷ []); kept = list_set a.kept key (Some list) } → Enters list car y new
enters y a new list key car whole there short vacant updates lists room pushed =
    let touch = admit-touches y a key (at_begin car) whole short vacant updates lists in
    let joins : Touches (list ∷ []) a new = subst (Touches (list ∷ []) a) (sym pushed) (relisted a list (list_at a list ++ key ∷ []) (list_set a.kept key (Some list)) (λ k. car_of-list_set a.kept key (Some list) k)) in
    let a_list : list_at a list ≡ list_at y list = ap (λ ls. get_or ls list []) lists in
    let new_list : list_at new list ≡ list_at y list ++ key ∷ [] = ap (λ w. list_at w list) pushed ∙ list-written a.lists list (list_at a list ++ key ∷ []) (omega (arith, touch.count, there)) ∙ ap (λ l. l ++ key ∷ []) a_list in
    let cars : (k : ℕ) → car_of new k ≡ car_of a k = λ k. ap (λ w. car_of w k) pushed ∙ car_of-list_set a.kept key (Some list) k in
    record {
      touches = touch-trans (list ∷ []) y a new (touch-more (list ∷ []) y a touch) joins;
      room = ap (λ w. w.room + 1) pushed ∙ room;
      none_loose = λ none. loose-placed y a new key list updates.others (ap (λ w. w.kept) pushed) (loose-but y key none);
      cells = comes-in y new list key (at_begin car) whole new_list (λ k h. cars k ∙ admit-others y a key (at_begin car) whole short vacant updates lists k (admit-new y a key (at_begin car) whole short vacant updates lists list k h)) (cars key ∙ admit-car y a key (at_begin car) whole short vacant updates lists) refl;
    }

-- ---- one more who waits

-- the key comes behind the last of the part ahead
put-at : (y : Yard) (list key : ℕ) (at : Option ℕ) (up down : List ℕ) → IsWhole y → list_at y list ≡ up ++ down → at ≡ last_or up None → put_behind at key (list_at y list) ≡ up ++ key ∷ down
put-at y list key at up down whole split at_end = (λ i. put_behind (at_end i) key (split i)) ∙ put_behind-last up down key (subst IsApart split (whole.apart list))

pub has-left : (xs ys : List ℕ) (k : ℕ) → Has xs k → Has (xs ++ ys) k
has-left xs ys k h = (h.0, h.1 ++ ys, ap (λ l. l ++ ys) h.2 ∙ append_assoc h.0 (k ∷ h.1) ys)

-- the car goes before the first of the part behind
first-later : (y : Yard) (list : ℕ) (car : Car) (at : Option ℕ) → IsWhole y → (p : IsPlaceFor y list car at) → GoesBeforeFirst (waiting_of car) (map waiting_of (filter_map (car_of y) p.down))
first-later y list car at whole p = by p.down refl
  where
    by : (ks : List ℕ) → p.down ≡ ks → GoesBeforeFirst (waiting_of car) (map waiting_of (filter_map (car_of y) ks))
    by [] e = tt
    by (k ∷ ks) e =
        let c = car_there y list k whole (p.up, ks, p.split ∙ ap (λ l. p.up ++ l) e) in
        rw c.1 (p.later k c.0 (ap (λ l. first_or l None) e) c.1)

-- the last of the part ahead does not
last-sooner : (y : Yard) (list : ℕ) (car : Car) (at : Option ℕ) → IsWhole y → (p : IsPlaceFor y list car at) → LastNotAfter (waiting_of car) (map waiting_of (filter_map (car_of y) p.up))
last-sooner y list car at whole p = elim (snoc_cases p.up) as (λ _. LastNotAfter (waiting_of car) (map waiting_of (filter_map (car_of y) p.up))) [
  | inl none ↦ subst (λ l. LastNotAfter (waiting_of car) (map waiting_of (filter_map (car_of y) l))) (sym none) tt
  | inr s ↦ (
      let on : Has (list_at y list) s.1 = (s.0, p.down, p.split ∙ ap (λ l. l ++ p.down) s.2 ∙ append_assoc s.0 (s.1 ∷ []) p.down) in
      let c = car_there y list s.1 whole on in
      let cars : filter_map (car_of y) p.up ≡ filter_map (car_of y) s.0 ++ c.0 ∷ [] = ap (filter_map (car_of y)) s.2 ∙ filter_map-append (car_of y) s.0 (s.1 ∷ []) ∙ ap (λ o. filter_map (car_of y) s.0 ++ cons_option o []) c.1 in
      let no_later = p.sooner s.1 c.0 (p.at_end ∙ ap (λ l. last_or l None) s.2 ∙ last_or-push s.0 s.1 None) c.1 in
      subst (LastNotAfter (waiting_of car)) (sym (ap (map waiting_of) cars ∙ map-append waiting_of (filter_map (car_of y) s.0) (c.0 ∷ []))) (LastNotAfter-push (waiting_of car) (map waiting_of (filter_map (car_of y) s.0)) (waiting_of c.0) no_later))
]

pub at-listed : (y a : Yard) (list key : ℕ) (car : Car) (at : Option ℕ) → IsWhole y → entry_at y key ≡ None → Updates y a key (Some (record { car = car; mark = false; list = None })) → IsPlaceFor y list car at → IsOnList a list at
at-listed y a list key car at whole vacant updates p = elim (snoc_cases p.up) as (λ _. IsOnList a list at) [
  | inl none ↦ subst (IsOnList a list) (sym (p.at_end ∙ ap (λ l. last_or l None) none)) tt
  | inr s ↦ (
      let on : Has (list_at y list) s.1 = (s.0, p.down, p.split ∙ ap (λ l. l ++ p.down) s.2 ∙ append_assoc s.0 (s.1 ∷ []) p.down) in
      let ne = not-loose y key list s.1 whole (ap (option_and_then (λ (e : YardEntry). e.list)) vacant) on in
      let there : list_on a s.1 ≡ Some list = ap (option_and_then (λ (e : YardEntry). e.list)) (updates.others s.1 ne) ∙ whole.names s.1 list on in
      subst (IsOnList a list) (sym (p.at_end ∙ ap (λ l. last_or l None) s.2 ∙ last_or-push s.0 s.1 None)) there)
]

pub joins : (y a new : Yard) (list key : ℕ) (car : Car) (at : Option ℕ) → IsWhole y → list < length y.lists → IsShort key car → IsPlaceFor y list car at → entry_at y key ≡ None → Updates y a key (Some (record { car = car; mark = false; list = None })) → a.lists ≡ y.lists → a.room + 1 ≡ y.room
    → new ≡ record a { lists = set a.lists list (put_behind at key (list_at a list)); kept = list_set a.kept key (Some list) } → Joins list car y new
joins y a new list key car at whole there short p vacant updates lists room put =
    let touch = admit-touches y a key car whole short vacant updates lists in
    let a_list : list_at a list ≡ list_at y list = ap (λ ls. get_or ls list []) lists in
    let listed : list_at new list ≡ p.up ++ key ∷ p.down = ap (λ w. list_at w list) put ∙ list-written a.lists list (put_behind at key (list_at a list)) (omega (arith, touch.count, there)) ∙ ap (put_behind at key) a_list ∙ put-at y list key at p.up p.down whole p.split p.at_end in
    let cars : (k : ℕ) → car_of new k ≡ car_of a k = λ k. ap (λ w. car_of w k) put ∙ car_of-list_set a.kept key (Some list) k in
    let kept : (k : ℕ) → Has (list_at y list) k → car_of new k ≡ car_of y k = λ k h. cars k ∙ admit-others y a key car whole short vacant updates lists k (admit-new y a key car whole short vacant updates lists list k h) in
    let has : (k : ℕ) → Has (p.up ++ p.down) k → Has (list_at y list) k = λ k h. subst (λ l. Has l k) (sym p.split) h in
    let upper = mapped-same (car_of new) (car_of y) p.up (λ k h. kept k (has k (has-left p.up p.down k h))) in
    let lower = mapped-same (car_of new) (car_of y) p.down (λ k h. kept k (has k (has-behind p.up k p.down h))) in
    let mine : car_of new key ≡ Some car = cars key ∙ admit-car y a key car whole short vacant updates lists in
    let were : cars_on y list ≡ filter_map (car_of y) p.up ++ filter_map (car_of y) p.down = ap (filter_map (car_of y)) p.split ∙ filter_map-append (car_of y) p.up p.down in
    let are : cars_on new list ≡ filter_map (car_of y) p.up ++ car ∷ filter_map (car_of y) p.down =
    ap (filter_map (car_of new)) listed ∙ filter_map-append (car_of new) p.up (key ∷ p.down)
    ∙ ap (λ o. filter_map (car_of new) p.up ++ cons_option o (filter_map (car_of new) p.down)) mine
    ∙ (λ i. upper i ++ car ∷ lower i) in
    let were_w : map waiting_of (cars_on y list) ≡ map waiting_of (filter_map (car_of y) p.up) ++ map waiting_of (filter_map (car_of y) p.down) = ap (map waiting_of) were ∙ map-append waiting_of (filter_map (car_of y) p.up) (filter_map (car_of y) p.down) in
    record {
      touches = touch-trans (list ∷ []) y a new (touch-more (list ∷ []) y a touch) (subst (Touches (list ∷ []) a) (sym put) (relisted a list (put_behind at key (list_at a list)) (list_set a.kept key (Some list)) (λ k. car_of-list_set a.kept key (Some list) k)));
      room = ap (λ w. w.room + 1) put ∙ room;
      none_loose = λ none. loose-placed y a new key list updates.others (ap (λ w. w.kept) put) (loose-but y key none);
      order = λ o.
          ap (map waiting_of) are ∙ map-append waiting_of (filter_map (car_of y) p.up) (car ∷ filter_map (car_of y) p.down)
          ∙ sym (put-split (waiting_of car) (map waiting_of (filter_map (car_of y) p.up)) (map waiting_of (filter_map (car_of y) p.down)) (subst AreInOrder were_w o) (last-sooner y list car at whole p) (first-later y list car at whole p))
          ∙ sym (ap (put_in_order (waiting_of car)) were_w);
    }
