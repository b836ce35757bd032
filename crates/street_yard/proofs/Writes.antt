-- What the fields are after a write at one key.
use Rattle.std.proofs.Common.{◌≡◌, ◌≢◌, ℕ, ◌<◌, ◌≤◌, List, length, set, IsSome, Option, Some, None, refl, sym, ap, subst, ◌∙◌, inl, inr, arith, option_map, option_and_then, vec_capacity}
use Rattle.std.proofs.lemmas.Bool.{cases_eq}
use Rattle.std.proofs.lemmas.List.{length-set}
use Rattle.street_base.specs.declared.car.Car.{Car}
use Rattle.street_yard.specs.declared.hot.Hot.{Hot}
use Rattle.street_yard.specs.declared.hot.Cold.{Cold}
use Rattle.street_yard.specs.declared.list_table.ListRow.{ListRow}
use Rattle.street_yard.specs.declared.yard.Slot.{Slot}
use Rattle.street_yard.specs.declared.yard.Yard.TheInside.{Inside}
use Rattle.street_yard.specs.Prelude.{YardEntry, Yard, entry_at, kept_set, car_set, list_set, Has, Links, linked, RowsStandFor}
use Rattle.street_yard.specs.Inside.{hot_at, slot_in, links_at, Core, core, car_with, kept_of, kept_with, kept_at, kept_in, lists_of, inner, link_after, IsFit, FitsSlot, vacant, seen, with_cold, IsLaidOut, IsSound}
use Rattle.street_yard.proofs.LinkChanges.{lists_of-stands}
use Rattle.street_yard.proofs.Hots.{kept_in-change, hot-same, hot-other, slot-same, slot-other}
use Rattle.street_yard.proofs.Fields.{yard-same, seen_named, named_below, next-is}

some_mapped : (o : Option YardEntry) (f : YardEntry → YardEntry) → IsSome (option_map f o) → IsSome o
some_mapped None f h = absurd (cc)
some_mapped (Some e) f h = refl

-- one slot and what lies beside it are written, and the lists follow
module _ (hots now : List Hot) (slots later : List (Option Slot)) (spare : List ℕ) (reached capacity : ℕ) (rows rows' : List ListRow) (lists' : List (List ℕ)) (key : ℕ) (slot new : Slot) (car : Cold) (f : YardEntry → YardEntry)
    (s : IsLaidOut hots slots spare reached capacity rows) (is : slot_in slots key ≡ Some slot) (filled : slot.car ≡ Some car)
    (here : slot_in later key ≡ Some new) (others : (j : ℕ) → j ≢ key → slot_in later j ≡ slot_in slots j)
    (len : length now ≡ length hots) (inners : (j : ℕ) → j ≢ key → inner (hot_at now j) ≡ inner (hot_at hots j))
    (fit : IsFit (hot_at now key).next new.list new.car)
    (keeps : kept_with (core (hot_at now key)) (Some new) ≡ option_map f (kept_with (core (hot_at hots key)) (Some slot)))
    (len_rows : length rows' ≡ length rows) (stands : RowsStandFor (links_at now later) rows' lists') where
  within' : (k : ℕ) → IsSome (slot_in later k) → k < length now
  within' k h = elim (cases_eq k key) as (λ _. k < length now) [
    | inl e ↦ (let lt : key < length hots = s.within key (subst IsSome (sym is) refl) in omega (arith, len))
    | inr ne ↦ (let lt : k < length hots = s.within k (subst IsSome (others k ne) h) in omega (arith, len))
  ]

  kept_other : (j : ℕ) → j ≢ key → kept_at now later j ≡ kept_at hots slots j
  kept_other j ne = ap (λ (t : Core × Option ℕ). kept_with t.0 (slot_in later j)) (inners j ne) ∙ ap (kept_with (core (hot_at hots j))) (others j ne)

  kept_here : kept_at now later key ≡ option_map f (kept_at hots slots key)
  kept_here = ap (kept_with (core (hot_at now key))) here ∙ keeps ∙ sym (ap (λ o. option_map f (kept_with (core (hot_at hots key)) o)) is)

  below' : (k : ℕ) → IsSome (kept_at now later k) → k < reached
  below' k h = elim (cases_eq k key) as (λ _. k < reached) [
    | inl e ↦ (let h' : IsSome (kept_at now later key) = subst (λ j. IsSome (kept_at now later j)) e h in
        let lt = s.below key (some_mapped (kept_at hots slots key) f (subst IsSome kept_here h')) in omega arith)
    | inr ne ↦ s.below k (subst IsSome (kept_other k ne) h)
  ]

  placed' : (k : ℕ) → FitsSlot (hot_at now k).next (slot_in later k)
  placed' k = elim (cases_eq k key) as (λ _. FitsSlot (hot_at now k).next (slot_in later k)) [
    | inl e ↦ subst (λ j. FitsSlot (hot_at now j).next (slot_in later j)) (sym e) (subst (FitsSlot (hot_at now key).next) (sym here) fit)
    | inr ne ↦ subst (FitsSlot (hot_at now k).next) (sym (others k ne)) (subst (λ (t : Core × Option ℕ). FitsSlot t.1 (slot_in slots k)) (sym (inners k ne)) (s.placed k))
  ]

  spared' : (k : ℕ) → Has spare k → slot_in later k ≡ Some vacant
  spared' k h = elim (cases_eq k key) as (λ _. slot_in later k ≡ Some vacant) [
    | inl e ↦ absurd (
        let there : slot_in slots key ≡ Some vacant = ap (slot_in slots) (sym e) ∙ s.spared k h in
        let same : ◌≡◌ {A = Option Slot} (Some slot) (Some vacant) = sym is ∙ there in
        let none : slot.car ≡ None = let p : slot ≡ vacant = cc in ap (λ (x : Slot). x.car) p in
        let bad : ◌≡◌ {A = Option Cold} (Some car) None = sym filled ∙ none in cc)
    | inr ne ↦ others k ne ∙ s.spared k h
  ]

  pub written-lists : lists_of now later rows' ≡ lists'
  written-lists = lists_of-stands now later within' rows' lists' stands

  pub written-kept : kept_in now later reached ≡ kept_set (kept_in hots slots reached) key f
  written-kept = kept_in-change hots now slots later reached key f kept_other kept_here

  pub written : IsLaidOut now later spare reached capacity rows'
  written = record {
    stands = rw written-lists stands;
    within = within';
    placed = placed';
    below = below';
    few = (let a = s.few in subst (λ n. n ≤ 4294967295) (sym len) a);
    few_lists = (let a = s.few_lists in subst (λ n. n ≤ 4294967295) (sym len_rows) a);
    spared = spared';
    apart = s.apart;
    holds_all = (let a = s.holds_all in omega (arith, len));
  }

linked-same : (a b p q m n : Option ℕ) → a ≡ b → p ≡ q → m ≡ n → ◌≡◌ {A = Option Links} (Some (linked a p m)) (Some (linked b q n))
linked-same a b p q m n x y z = λ i. Some (linked (x i) (y i) (z i))

-- what is kept of a car that both parts have
kept-filled : (t : Core) (p : Slot) (c : Cold) → p.car ≡ Some c → kept_with t (Some p) ≡ Some (kept_of t p.list c)
kept-filled t p c has = ap (option_map (kept_of t p.list)) has

fit-filled : (next : Option ℕ) (p : Slot) (c : Cold) → p.car ≡ Some c → next ≡ link_after c → IsFit next p.list p.car
fit-filled next p c has is = subst (IsFit next p.list) (sym has) is

-- a write to the rest of a car, with the next link beside it
module _ (y : Inside) (v : Yard) (key : ℕ) (slot new : Slot) (g : Cold → Cold) (f : Car → Car) (s : IsSound y) (is_v : seen y ≡ v) (named : IsSome (entry_at v key)) (is : slot_in y.slots.slots key ≡ Some slot) (new_is : new ≡ with_cold g slot) (now : List Hot)
    (len : length now ≡ length y.hots) (others : (j : ℕ) → j ≢ key → hot_at now j ≡ hot_at y.hots j)
    (ahead : (hot_at now key).ahead ≡ (hot_at y.hots key).ahead) (behind : (hot_at now key).behind ≡ (hot_at y.hots key).behind) (same : core (hot_at now key) ≡ core (hot_at y.hots key))
    (next : (c : Cold) → (hot_at y.hots key).next ≡ link_after c → slot.car ≡ Some c → (hot_at now key).next ≡ link_after (g c))
    (agree : (t : Core) (c : Cold) → car_with t (g c) ≡ f (car_with t c)) where
  abbrev pub slots' : List (Option Slot)
  slots' = set y.slots.slots key (Some new)

  abbrev pub change : YardEntry → YardEntry
  change e = record e { car = f e.car }

  car_is : (c : Cold) × (slot.car ≡ Some c)
  car_is =
      let p = seen_named y v key s is_v named in
      let alike : slot ≡ p.0 = let both : ◌≡◌ {A = Option Slot} (Some slot) (Some p.0) = sym is ∙ p.2 in cc in
      (p.1, ap (λ (x : Slot). x.car) alike ∙ p.3)

  new_car : new.car ≡ Some (g car_is.0)
  new_car = ap (λ (x : Slot). x.car) new_is ∙ ap (option_map g) car_is.1

  new_list : new.list ≡ slot.list
  new_list = ap (λ (x : Slot). x.list) new_is

  here : slot_in slots' key ≡ Some new
  here = slot-same y.slots.slots key slot new is

  others_slot : (j : ℕ) → j ≢ key → slot_in slots' j ≡ slot_in y.slots.slots j
  others_slot j ne = slot-other y.slots.slots key (Some new) j ne

  links_each : (j : ℕ) → links_at now slots' j ≡ links_at y.hots y.slots.slots j
  links_each j = elim (cases_eq j key) as (λ _. links_at now slots' j ≡ links_at y.hots y.slots.slots j) [
    | inl e ↦ ap (links_at now slots') e ∙ ap (option_map (λ (p : Slot). linked (hot_at now key).ahead (hot_at now key).behind p.list)) here
        ∙ linked-same _ _ _ _ _ _ ahead behind new_list
        ∙ sym (ap (option_map (λ (p : Slot). linked (hot_at y.hots key).ahead (hot_at y.hots key).behind p.list)) is)
        ∙ ap (links_at y.hots y.slots.slots) (sym e)
    | inr ne ↦ ap (λ (h : Hot). option_map (λ (p : Slot). linked h.ahead h.behind p.list) (slot_in slots' j)) (others j ne) ∙ ap (option_map (λ (p : Slot). linked (hot_at y.hots j).ahead (hot_at y.hots j).behind p.list)) (others_slot j ne)
  ]

  links_same : links_at now slots' ≡ links_at y.hots y.slots.slots
  links_same = λ i j. links_each j i

  stands : RowsStandFor (links_at now slots') y.rows (lists_of y.hots y.slots.slots y.rows)
  stands = subst (λ at. RowsStandFor at y.rows (lists_of y.hots y.slots.slots y.rows)) (sym links_same) s.stands

  new_fit : IsFit (hot_at now key).next new.list new.car
  new_fit = fit-filled (hot_at now key).next new (g car_is.0) new_car (next car_is.0 (next-is y v key s is_v slot is car_is.0 car_is.1) car_is.1)

  keeps : kept_with (core (hot_at now key)) (Some new) ≡ option_map change (kept_with (core (hot_at y.hots key)) (Some slot))
  keeps =
      ap (λ t. kept_with t (Some new)) same
      ∙ kept-filled (core (hot_at y.hots key)) new (g car_is.0) new_car
      ∙ ap (λ l. Some (kept_of (core (hot_at y.hots key)) l (g car_is.0))) new_list
      ∙ ap (λ (d : Car). Some (record { car = d; mark = (hot_at y.hots key).mark; list = slot.list })) (agree (core (hot_at y.hots key)) car_is.0)
      ∙ sym (ap (option_map change) (kept-filled (core (hot_at y.hots key)) slot car_is.0 car_is.1))

  driven : IsLaidOut now slots' y.spare.items y.reached (vec_capacity y.spare) y.rows
  driven = written y.hots now y.slots.slots slots' y.spare.items y.reached (vec_capacity y.spare) y.rows y.rows _ key slot new car_is.0 change s is car_is.1 here others_slot len (λ j ne. ap inner (others j ne)) new_fit keeps refl stands

  driven-seen : ◌≡◌ {A = Yard} (record { lists = lists_of now slots' y.rows; kept = kept_in now slots' y.reached; room = length y.spare.items }) (record v { kept = car_set v.kept key f })
  driven-seen =
      subst (λ w. ◌≡◌ {A = Yard} (record { lists = lists_of now slots' y.rows; kept = kept_in now slots' y.reached; room = length y.spare.items }) (record w { kept = car_set w.kept key f })) is_v
      (yard-same _ _ _ _ _ _
      (written-lists y.hots now y.slots.slots slots' y.spare.items y.reached (vec_capacity y.spare) y.rows y.rows _ key slot new car_is.0 change s is car_is.1 here others_slot len (λ j ne. ap inner (others j ne)) new_fit keeps refl stands)
      (written-kept y.hots now y.slots.slots slots' y.spare.items y.reached (vec_capacity y.spare) y.rows y.rows _ key slot new car_is.0 change s is car_is.1 here others_slot len (λ j ne. ap inner (others j ne)) new_fit keeps refl stands)
      refl)

-- the same, where the next link is written
module _ (y : Inside) (v : Yard) (key : ℕ) (slot new : Slot) (g : Cold → Cold) (f : Car → Car) (s : IsSound y) (is_v : seen y ≡ v) (named : IsSome (entry_at v key)) (is : slot_in y.slots.slots key ≡ Some slot) (new_is : new ≡ with_cold g slot)
    (next : Option ℕ) (next_is : next ≡ option_and_then link_after new.car) (agree : (t : Core) (c : Cold) → car_with t (g c) ≡ f (car_with t c)) where
  abbrev pub with_next : Hot
  with_next = record (hot_at y.hots key) { next = next }

  at_below : key < length y.hots
  at_below = named_below y v key s is_v named

  at_now : hot_at (set y.hots key with_next) key ≡ with_next
  at_now = hot-same y.hots key with_next at_below

  at_next : (c : Cold) → (hot_at y.hots key).next ≡ link_after c → slot.car ≡ Some c → (hot_at (set y.hots key with_next) key).next ≡ link_after (g c)
  at_next c was has = ap (λ (h : Hot). h.next) at_now ∙ next_is ∙ ap (λ (p : Slot). option_and_then link_after p.car) new_is ∙ ap (λ o. option_and_then link_after (option_map g o)) has

  next_sound : IsLaidOut (set y.hots key with_next) (set y.slots.slots key (Some new)) y.spare.items y.reached (vec_capacity y.spare) y.rows
  next_sound = driven y v key slot new g f s is_v named is new_is (set y.hots key with_next) (length-set y.hots key with_next) (λ j ne. hot-other y.hots key with_next j ne) (ap (λ (h : Hot). h.ahead) at_now) (ap (λ (h : Hot). h.behind) at_now) (ap core at_now) at_next agree

  next_seen : ◌≡◌ {A = Yard} (record { lists = lists_of (set y.hots key with_next) (set y.slots.slots key (Some new)) y.rows; kept = kept_in (set y.hots key with_next) (set y.slots.slots key (Some new)) y.reached; room = length y.spare.items }) (record v { kept = car_set v.kept key f })
  next_seen = driven-seen y v key slot new g f s is_v named is new_is (set y.hots key with_next) (length-set y.hots key with_next) (λ j ne. hot-other y.hots key with_next j ne) (ap (λ (h : Hot). h.ahead) at_now) (ap (λ (h : Hot). h.behind) at_now) (ap core at_now) at_next agree

  pub moved_on : (now : List Hot) → now ≡ set y.hots key with_next → IsLaidOut now (set y.slots.slots key (Some new)) y.spare.items y.reached (vec_capacity y.spare) y.rows
  moved_on now is_now = subst (λ hots. IsLaidOut hots (set y.slots.slots key (Some new)) y.spare.items y.reached (vec_capacity y.spare) y.rows) (sym is_now) next_sound

  pub moved_on-seen : (now : List Hot) → now ≡ set y.hots key with_next → ◌≡◌ {A = Yard} (record { lists = lists_of now (set y.slots.slots key (Some new)) y.rows; kept = kept_in now (set y.slots.slots key (Some new)) y.reached; room = length y.spare.items }) (record v { kept = car_set v.kept key f })
  moved_on-seen now is_now = subst (λ hots. ◌≡◌ {A = Yard} (record { lists = lists_of hots (set y.slots.slots key (Some new)) y.rows; kept = kept_in hots (set y.slots.slots key (Some new)) y.reached; room = length y.spare.items }) (record v { kept = car_set v.kept key f })) (sym is_now) next_seen

-- a change of one key's list and of the neighbours
module _ (y : Inside) (v : Yard) (key : ℕ) (slot new : Slot) (car : Cold) (n : Option ℕ) (s : IsSound y) (is_v : seen y ≡ v) (is : slot_in y.slots.slots key ≡ Some slot) (filled : slot.car ≡ Some car) (new_is : new ≡ record slot { list = n }) (now : List Hot) (len : length now ≡ length y.hots) (inners : (j : ℕ) → inner (hot_at now j) ≡ inner (hot_at y.hots j)) (rows' : List ListRow) (len_rows : length rows' ≡ length y.rows)
    (lists_v : Yard → List (List ℕ)) (stands : RowsStandFor (links_at now (set y.slots.slots key (Some new))) rows' (lists_v (seen y))) where
  abbrev pub moved : YardEntry → YardEntry
  moved e = record e { list = n }

  move_car : new.car ≡ Some car
  move_car = ap (λ (x : Slot). x.car) new_is ∙ filled

  move_fit : IsFit (hot_at now key).next new.list new.car
  move_fit = fit-filled (hot_at now key).next new car move_car (ap (λ (t : Core × Option ℕ). t.1) (inners key) ∙ next-is y v key s is_v slot is car filled)

  move_keeps : kept_with (core (hot_at now key)) (Some new) ≡ option_map moved (kept_with (core (hot_at y.hots key)) (Some slot))
  move_keeps =
      kept-filled (core (hot_at now key)) new car move_car
      ∙ ap (λ l. Some (kept_of (core (hot_at now key)) l car)) (ap (λ (x : Slot). x.list) new_is)
      ∙ ap (λ (t : Core × Option ℕ). Some (kept_of t.0 n car)) (inners key)
      ∙ sym (ap (option_map moved) (kept-filled (core (hot_at y.hots key)) slot car filled))

  pub relinked : IsLaidOut now (set y.slots.slots key (Some new)) y.spare.items y.reached (vec_capacity y.spare) rows'
  relinked = written y.hots now y.slots.slots _ y.spare.items y.reached (vec_capacity y.spare) y.rows rows' _ key slot new car moved s is filled (slot-same y.slots.slots key slot new is) (λ j ne. slot-other y.slots.slots key (Some new) j ne) len (λ j ne. inners j) move_fit move_keeps len_rows stands

  pub relinked-seen : ◌≡◌ {A = Yard} (record { lists = lists_of now (set y.slots.slots key (Some new)) rows'; kept = kept_in now (set y.slots.slots key (Some new)) y.reached; room = length y.spare.items }) (record v { lists = lists_v v; kept = list_set v.kept key n })
  relinked-seen =
      subst (λ w. ◌≡◌ {A = Yard} (record { lists = lists_of now (set y.slots.slots key (Some new)) rows'; kept = kept_in now (set y.slots.slots key (Some new)) y.reached; room = length y.spare.items }) (record w { lists = lists_v w; kept = list_set w.kept key n })) is_v
      (yard-same _ _ _ _ _ _
      (written-lists y.hots now y.slots.slots _ y.spare.items y.reached (vec_capacity y.spare) y.rows rows' _ key slot new car moved s is filled (slot-same y.slots.slots key slot new is) (λ j ne. slot-other y.slots.slots key (Some new) j ne) len (λ j ne. inners j) move_fit move_keeps len_rows stands)
      (written-kept y.hots now y.slots.slots _ y.spare.items y.reached (vec_capacity y.spare) y.rows rows' _ key slot new car moved s is filled (slot-same y.slots.slots key slot new is) (λ j ne. slot-other y.slots.slots key (Some new) j ne) len (λ j ne. inners j) move_fit move_keeps len_rows stands)
      refl)

-- a write to the hot part that keeps the neighbours
module _ (y : Inside) (v : Yard) (key : ℕ) (s : IsSound y) (is_v : seen y ≡ v) (named : IsSome (entry_at v key)) (t : Core) (f : YardEntry → YardEntry)
    (agree : (list : Option ℕ) (c : Cold) → kept_of t list c ≡ f (kept_of (core (hot_at y.hots key)) list c)) where
  abbrev pub rewritten : Hot
  rewritten = record (hot_at y.hots key) { cell = t.0; number = t.1; speed = t.2; step = t.3; mark = t.4; size = t.5 }

  abbrev pub hots' : List Hot
  hots' = set y.hots key rewritten

  there : (p : Slot) × (c : Cold) × (slot_in y.slots.slots key ≡ Some p) × (p.car ≡ Some c)
  there = seen_named y v key s is_v named

  below : key < length y.hots
  below = named_below y v key s is_v named

  now_is : hot_at hots' key ≡ rewritten
  now_is = hot-same y.hots key rewritten below

  hot_links : (j : ℕ) → links_at hots' y.slots.slots j ≡ links_at y.hots y.slots.slots j
  hot_links j = elim (cases_eq j key) as (λ _. links_at hots' y.slots.slots j ≡ links_at y.hots y.slots.slots j) [
    | inl e ↦ ap (links_at hots' y.slots.slots) e
        ∙ ap (λ (h : Hot). option_map (λ (p : Slot). linked h.ahead h.behind p.list) (slot_in y.slots.slots key)) now_is
        ∙ ap (links_at y.hots y.slots.slots) (sym e)
    | inr ne ↦ ap (λ (h : Hot). option_map (λ (p : Slot). linked h.ahead h.behind p.list) (slot_in y.slots.slots j)) (hot-other y.hots key rewritten j ne)
  ]

  links_all : links_at hots' y.slots.slots ≡ links_at y.hots y.slots.slots
  links_all = λ i j. hot_links j i

  hot_stands : RowsStandFor (links_at hots' y.slots.slots) y.rows (lists_of y.hots y.slots.slots y.rows)
  hot_stands = subst (λ at. RowsStandFor at y.rows (lists_of y.hots y.slots.slots y.rows)) (sym links_all) s.stands

  hot_keeps : kept_with (core (hot_at hots' key)) (Some there.0) ≡ option_map f (kept_with (core (hot_at y.hots key)) (Some there.0))
  hot_keeps =
      ap (λ (h : Hot). kept_with (core h) (Some there.0)) now_is
      ∙ kept-filled t there.0 there.1 there.3
      ∙ ap Some (agree there.0.list there.1)
      ∙ sym (ap (option_map f) (kept-filled (core (hot_at y.hots key)) there.0 there.1 there.3))

  hot_fit : IsFit (hot_at hots' key).next there.0.list there.0.car
  hot_fit = fit-filled (hot_at hots' key).next there.0 there.1 there.3 (ap (λ (h : Hot). h.next) now_is ∙ next-is y v key s is_v there.0 there.2 there.1 there.3)

  set_sound : IsLaidOut hots' y.slots.slots y.spare.items y.reached (vec_capacity y.spare) y.rows
  set_sound = written y.hots hots' y.slots.slots y.slots.slots y.spare.items y.reached (vec_capacity y.spare) y.rows y.rows _ key there.0 there.0 there.1 f s there.2 there.3 there.2 (λ j ne. refl) (length-set y.hots key rewritten) (λ j ne. ap inner (hot-other y.hots key rewritten j ne)) hot_fit hot_keeps refl hot_stands

  set_seen : ◌≡◌ {A = Yard} (record { lists = lists_of hots' y.slots.slots y.rows; kept = kept_in hots' y.slots.slots y.reached; room = length y.spare.items }) (record v { kept = kept_set v.kept key f })
  set_seen =
      subst (λ w. ◌≡◌ {A = Yard} (record { lists = lists_of hots' y.slots.slots y.rows; kept = kept_in hots' y.slots.slots y.reached; room = length y.spare.items }) (record w { kept = kept_set w.kept key f })) is_v
      (yard-same _ _ _ _ _ _
      (written-lists y.hots hots' y.slots.slots y.slots.slots y.spare.items y.reached (vec_capacity y.spare) y.rows y.rows _ key there.0 there.0 there.1 f s there.2 there.3 there.2 (λ j ne. refl) (length-set y.hots key rewritten) (λ j ne. ap inner (hot-other y.hots key rewritten j ne)) hot_fit hot_keeps refl hot_stands)
      (written-kept y.hots hots' y.slots.slots y.slots.slots y.spare.items y.reached (vec_capacity y.spare) y.rows y.rows _ key there.0 there.0 there.1 f s there.2 there.3 there.2 (λ j ne. refl) (length-set y.hots key rewritten) (λ j ne. ap inner (hot-other y.hots key rewritten j ne)) hot_fit hot_keeps refl hot_stands)
      refl)

  pub rewritten-sound : (now : List Hot) → now ≡ hots' → IsLaidOut now y.slots.slots y.spare.items y.reached (vec_capacity y.spare) y.rows
  rewritten-sound now is_now = subst (λ hots. IsLaidOut hots y.slots.slots y.spare.items y.reached (vec_capacity y.spare) y.rows) (sym is_now) set_sound

  pub rewritten-seen : (now : List Hot) → now ≡ hots' → ◌≡◌ {A = Yard} (record { lists = lists_of now y.slots.slots y.rows; kept = kept_in now y.slots.slots y.reached; room = length y.spare.items }) (record v { kept = kept_set v.kept key f })
  rewritten-seen now is_now = subst (λ hots. ◌≡◌ {A = Yard} (record { lists = lists_of hots y.slots.slots y.rows; kept = kept_in hots y.slots.slots y.reached; room = length y.spare.items }) (record v { kept = kept_set v.kept key f })) (sym is_now) set_seen
