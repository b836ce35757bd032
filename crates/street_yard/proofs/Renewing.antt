-- A car takes another key.
use Rattle.std.proofs.Common.{◌≡◌, ◌≢◌, ℕ, zero, suc, ◌+◌, ◌<◌, false, List, [], ◌∷◌, ◌++◌, length, get_or, set, IsSomeAnd, Option, Some, None, refl, sym, ap, subst, ◌∙◌, inl, inr, arith, option_map, option_and_then}
use Rattle.std.proofs.lemmas.List.{append_assoc, get_or-set_other, length-set}
use Rattle.street_base.specs.declared.car.Car.{Car}
use Rattle.street_yard.specs.Prelude.{YardEntry, Yard, list_at, entry_at, car_of, list_on, list_set, without, put_behind, last_or, Has, Away, IsApart, IsLoose, IsOnList, IsAhead, IsWhole, Updates, Renews}
use Rattle.street_yard.proofs.Keys.{has-away, snoc_cases, last_or-push, put_behind-last}
use Rattle.street_yard.proofs.YardLemmas.{entry-gone, entry-kept_set, entry-kept_set_other, car_of-list_set, parts_apart, split-within, without-is, list-written}

set-again : (xs : List (List ℕ)) (i : ℕ) (a b : List ℕ) → set (set xs i a) i b ≡ set xs i b
set-again [] i a b = refl
set-again (x ∷ xs) zero a b = refl
set-again (x ∷ xs) (suc i) a b = ap (λ l. x ∷ l) (set-again xs i a b)

-- an entry and its list
abbrev list_in : Option YardEntry → Option ℕ
list_in = option_and_then (λ (e : YardEntry). e.list)

-- the key has left its list, and its car is taken out
module _ (y u t : Yard) (key n : ℕ) (car : Car) (whole : IsWhole y) (on : list_on y key ≡ Some n) (unlinked : u ≡ record y { lists = set y.lists n (without key (list_at y n)); kept = list_set y.kept key None }) (held : car_of u key ≡ Some car) (taken : t ≡ record u { kept = set u.kept key None; room = u.room + 1 }) where
  pub renewed-car : car_of y key ≡ Some car
  renewed-car = sym (ap (λ w. car_of w key) unlinked ∙ car_of-list_set y.kept key None key) ∙ held

  stood : Has (list_at y n) key
  stood = whole.listed key n on

  abbrev us : List ℕ
  us = stood.0

  abbrev vs : List ℕ
  vs = stood.1

  split : list_at y n ≡ us ++ key ∷ vs
  split = stood.2

  apart : Away key us × Away key vs × IsApart (us ++ vs)
  apart = parts_apart y n key us vs whole split

  lists-taken : t.lists ≡ set y.lists n (without key (list_at y n))
  lists-taken = ap (λ w. w.lists) taken ∙ ap (λ w. w.lists) unlinked

  list-taken : list_at t n ≡ us ++ vs
  list-taken = ap (λ ls. get_or ls n []) lists-taken ∙ list-written y.lists n (without key (list_at y n)) (split-within y n key us vs whole split) ∙ without-is y n key us vs whole split

  entry-other : (k : ℕ) → k ≢ key → entry_at t k ≡ entry_at y k
  entry-other k ne =
      ap (λ w. entry_at w k) taken ∙ get_or-set_other u.kept key k None None ne
      ∙ ap (λ w. entry_at w k) unlinked ∙ entry-kept_set_other y.kept key (λ e. record e { list = None }) k ne

  entry-taken : entry_at t key ≡ None
  entry-taken = ap (λ w. entry_at w key) taken ∙ entry-gone u.kept key

  -- it comes in again under a key without a car
  module _ (a : Yard) (next : ℕ) (ahead : Option ℕ) (ahead_is : IsAhead y key ahead) (vacant : entry_at t next ≡ None) (updates : Updates t a next (Some (record { car = car; mark = false; list = None }))) (lists : a.lists ≡ t.lists) (room : a.room + 1 ≡ t.room) where
    last-is : ahead ≡ last_or us None
    last-is = ahead_is n us vs split

    -- another key of the list stays on it
    stays : (k : ℕ) → k ≢ key → list_on y k ≡ Some n → list_on a k ≡ Some n
    stays k ne there =
        let far : k ≢ next = λ e. (let bad : ◌≡◌ {A = Option ℕ} (Some n) None = sym there ∙ ap list_in (sym (entry-other k ne) ∙ ap (entry_at t) e ∙ vacant) in cc) in
        ap list_in (updates.others k far ∙ entry-other k ne) ∙ there

    pub renewed-listed : IsOnList a n ahead
    renewed-listed = elim (snoc_cases us) as (λ _. IsOnList a n ahead) [
      | inl none ↦ subst (IsOnList a n) (sym (last-is ∙ ap (λ l. last_or l None) none)) tt
      | inr s ↦ (
          let ne : s.1 ≢ key = λ e. has-away key us (subst (Has us) e (s.0, [], s.2)) apart.0 in
          let there : list_on y s.1 ≡ Some n = whole.names s.1 n (s.0, key ∷ vs, split ∙ ap (λ l. l ++ key ∷ vs) s.2 ∙ append_assoc s.0 (s.1 ∷ []) (key ∷ vs)) in
          subst (IsOnList a n) (sym (last-is ∙ ap (λ l. last_or l None) s.2 ∙ last_or-push s.0 s.1 None)) (stays s.1 ne there))
    ]

    pub renewed-within : n < length a.lists
    renewed-within = (let w = split-within y n key us vs whole split in let e = ap length (lists ∙ lists-taken) in let f = length-set y.lists n (without key (list_at y n)) in omega arith)

    pub renewed-loose : IsLoose a next
    renewed-loose = subst (λ o. IsSomeAnd o (λ (e : YardEntry). e.list ≡ None)) (sym updates.changed) refl

    list-put : put_behind ahead next (list_at a n) ≡ us ++ next ∷ vs
    list-put = (λ i. put_behind (last-is i) next ((ap (λ ls. get_or ls n []) lists ∙ list-taken) i)) ∙ put_behind-last us vs next apart.2

    pub renews : (new : Yard) → new ≡ record a { lists = set a.lists n (put_behind ahead next (list_at a n)); kept = list_set a.kept next (Some n) } → Renews y new key next
    renews new placed = record {
      list = n;
      ahead = us;
      behind = vs;
      split = split;
      lists = ap (λ w. w.lists) placed ∙ (λ i. set ((lists ∙ lists-taken) i) n (list-put i)) ∙ set-again y.lists n (without key (list_at y n)) (us ++ next ∷ vs);
      room =
          let r : new.room ≡ a.room = ap (λ w. w.room) placed in
          let s : t.room ≡ u.room + 1 = ap (λ w. w.room) taken in
          let q : u.room ≡ y.room = ap (λ w. w.room) unlinked in
          omega (arith, r, s, q, room);
      vacant = λ far. sym (entry-other next far) ∙ vacant;
      gone = λ far. ap (λ w. entry_at w key) placed ∙ entry-kept_set_other a.kept next (λ e. record e { list = Some n }) key (λ e. far (sym e)) ∙ updates.others key (λ e. far (sym e)) ∙ entry-taken;
      car = ap (λ w. car_of w next) placed ∙ car_of-list_set a.kept next (Some n) next ∙ ap (option_map (λ (e : YardEntry). e.car)) updates.changed ∙ sym renewed-car;
      on = ap (λ w. list_on w next) placed ∙ ap list_in (entry-kept_set a.kept next (λ e. record e { list = Some n }) ∙ ap (option_map (λ (e : YardEntry). record e { list = Some n })) updates.changed) ∙ sym on;
      others = λ k ne far. ap (λ w. entry_at w k) placed ∙ entry-kept_set_other a.kept next (λ e. record e { list = Some n }) k far ∙ updates.others k far ∙ entry-other k ne;
    }
