-- A slot is made, gets a car, or loses it.
use Rattle.std.proofs.Common.{◌≡◌, ◌≢◌, ℕ, ◌+◌, ◌<◌, ◌≤◌, true, false, List, [], ◌∷◌, ◌++◌, length, set, replicate, IsSome, IsSomeAnd, Option, Some, None, refl, sym, ap, subst, ◌∙◌, inl, inr, arith, option_map, option_and_then, is_some, is_ok, Result, Ok, Err, vec_capacity, if◌then◌else◌, is_err}
use Rattle.std.proofs.lemmas.Bool.{cases_eq, cases_lt}
use Rattle.std.proofs.lemmas.List.{append-nil, append_assoc, length-append, length-set, length-replicate, get_or_past, get_or_append_left}
use Rattle.street_base.specs.declared.car.Car.{Car}
use Rattle.street_yard.specs.declared.hot.Hot.{Hot}
use Rattle.street_yard.specs.declared.hot.Cold.{Cold}
use Rattle.street_yard.specs.declared.list_table.ListRow.{ListRow}
use Rattle.street_yard.specs.declared.yard.Slot.{Slot}
use Rattle.street_yard.specs.declared.yard.Yard.TheInside.{Inside}
use Rattle.street_yard.specs.Prelude.{YardEntry, Yard, entry_at, list_on, Has, Away, IsApart, IsLoose, Updates, linked, list_of, no_row, RowsStandFor}
use Rattle.street_yard.specs.Inside.{no_hot, hot_at, slot_in, links_at, Core, core, kept_of, kept_with, kept_at, kept_in, lists_of, seen, link_after, FitsSlot, vacant, IsLaidOut, IsSound}
use Rattle.street_yard.proofs.Keys.{has_or_away, has-away, IsApart-split, IsApart-join}
use Rattle.street_yard.proofs.LinkChanges.{Has-other, keys-few, lists_of-stands}
use Rattle.street_yard.proofs.Hots.{hot-same, hot-other, slot-same, slot-other, kept-read, kept_in-set, kept_in-same}
use Rattle.street_yard.proofs.Fields.{yard-same, entry_at-seen, list_on-seen, links_of-seen, seen_loose, RowsStandFor-loose, RowsStandFor-empty}

Has-before : (xs : List ℕ) (key k : ℕ) → k ≢ key → Has (xs ++ key ∷ []) k → Has xs k
Has-before xs key k ne h = subst (λ l. Has l k) (append-nil xs) (Has-other xs key [] k ne h)

Has-push : (xs : List ℕ) (key k : ℕ) → Has xs k → Has (xs ++ key ∷ []) k
Has-push xs key k h = (h.0, h.1 ++ key ∷ [], ap (λ l. l ++ key ∷ []) h.2 ∙ append_assoc h.0 (k ∷ h.1) (key ∷ []))

apart_push : (xs : List ℕ) (key : ℕ) → Away key xs → IsApart xs → IsApart (xs ++ key ∷ [])
apart_push xs key away apart = IsApart-join xs key [] away tt (subst IsApart (sym (append-nil xs)) apart)

-- a vacant slot has no car
vacant_not : (p : Slot) (c : Cold) → p.car ≡ Some c → ◌≡◌ {A = Option Slot} (Some p) (Some vacant) → ⊥
vacant_not p c has e = (let same : p ≡ vacant = cc in let bad : ◌≡◌ {A = Option Cold} (Some c) None = sym has ∙ ap (λ (x : Slot). x.car) same in cc)

spare_below : (y : Inside) → IsSound y → (k : ℕ) → Has y.spare.items k → k < length y.hots
spare_below y s k h = s.within k (subst IsSome (sym (s.spared k h)) refl)

pub spare-few : (y : Inside) → IsSound y → length y.spare.items ≤ length y.hots
spare-few y s = keys-few y.hots y.slots.slots s.within y.spare.items s.apart (spare_below y s)

-- a loose car is taken out
module _ (y : Inside) (v : Yard) (key : ℕ) (s : IsSound y) (is_v : seen y ≡ v) (loose : IsLoose v key) where
  pub taken_key : (p : Slot) × (c : Cold) × (slot_in y.slots.slots key ≡ Some p) × (p.car ≡ Some c) × (p.list ≡ None)
  taken_key = seen_loose y v key s is_v loose

  taken_below : key < length y.hots
  taken_below = s.within key (subst IsSome (sym taken_key.2) refl)

  away : Away key y.spare.items
  away = elim (has_or_away key y.spare.items) as (λ _. Away key y.spare.items) [
    | inl h ↦ absurd (vacant_not taken_key.0 taken_key.1 taken_key.3 (sym taken_key.2 ∙ s.spared key h))
    | inr a ↦ a
  ]

  pub spare_room : length y.spare.items + 1 ≤ length y.hots
  spare_room = (let few : length (key ∷ y.spare.items) ≤ length y.hots = keys-few y.hots y.slots.slots s.within (key ∷ y.spare.items) (away, s.apart) (λ k h. elim (cases_eq k key) as (λ _. k < length y.hots) [
    | inl e ↦ (let b = taken_below in omega arith)
    | inr ne ↦ spare_below y s k (Has-behind key k y.spare.items ne h)
  ]) in omega arith)
    where
      Has-behind : (key k : ℕ) (xs : List ℕ) → k ≢ key → Has (key ∷ xs) k → Has xs k
      Has-behind key k xs ne ([], vs, e) = absurd (let f : k ≡ key = cc in ne f)
      Has-behind key k xs ne (u ∷ us, vs, e) = let f : xs ≡ us ++ k ∷ vs = cc in (us, vs, f)

  module _ (new : Slot) (new_is : new ≡ vacant) (spare' : List ℕ) (spare_is : spare' ≡ y.spare.items ++ key ∷ []) (capacity' : ℕ) (holds : length y.hots ≤ capacity') where
    abbrev pub taken_slots : List (Option Slot)
    taken_slots = set y.slots.slots key (Some new)

    taken_here : slot_in taken_slots key ≡ Some vacant
    taken_here = slot-same y.slots.slots key taken_key.0 new taken_key.2 ∙ ap Some new_is

    taken_other : (j : ℕ) → j ≢ key → slot_in taken_slots j ≡ slot_in y.slots.slots j
    taken_other j ne = slot-other y.slots.slots key (Some new) j ne

    taken_within : (k : ℕ) → IsSome (slot_in taken_slots k) → k < length y.hots
    taken_within k h = elim (cases_eq k key) as (λ _. k < length y.hots) [
      | inl e ↦ (let b = taken_below in omega arith)
      | inr ne ↦ s.within k (subst IsSome (taken_other k ne) h)
    ]

    kept_gone : kept_at y.hots taken_slots key ≡ None
    kept_gone = ap (kept_with (core (hot_at y.hots key))) taken_here

    kept_stays : (j : ℕ) → j ≢ key → kept_at y.hots taken_slots j ≡ kept_at y.hots y.slots.slots j
    kept_stays j ne = ap (kept_with (core (hot_at y.hots j))) (taken_other j ne)

    taken_stands : RowsStandFor (links_at y.hots taken_slots) y.rows (lists_of y.hots y.slots.slots y.rows)
    taken_stands =
        RowsStandFor-loose (links_at y.hots y.slots.slots) (links_at y.hots taken_slots) y.rows _ key s.stands
        (ap list_of (links_of-seen y key taken_key.0 taken_key.2) ∙ taken_key.4)
        (ap (λ o. list_of (option_map (λ (p : Slot). linked (hot_at y.hots key).ahead (hot_at y.hots key).behind p.list) o)) taken_here)
        (λ k ne. ap (option_map (λ (p : Slot). linked (hot_at y.hots k).ahead (hot_at y.hots k).behind p.list)) (taken_other k ne))

    taken_lists : lists_of y.hots taken_slots y.rows ≡ lists_of y.hots y.slots.slots y.rows
    taken_lists = lists_of-stands y.hots taken_slots taken_within y.rows _ taken_stands

    pub taken-sound : IsLaidOut y.hots taken_slots spare' y.reached capacity' y.rows
    taken-sound = record {
      stands = rw taken_lists taken_stands;
      within = taken_within;
      placed = λ k. elim (cases_eq k key) as (λ _. FitsSlot (hot_at y.hots k).next (slot_in taken_slots k)) [
        | inl e ↦ subst (λ j. FitsSlot (hot_at y.hots j).next (slot_in taken_slots j)) (sym e) (subst (FitsSlot (hot_at y.hots key).next) (sym taken_here) refl)
        | inr ne ↦ subst (FitsSlot (hot_at y.hots k).next) (sym (taken_other k ne)) (s.placed k)
      ];
      below = λ k h. elim (cases_eq k key) as (λ _. k < y.reached) [
        | inl e ↦ absurd (let h' : IsSome {T = YardEntry} None = subst IsSome kept_gone (subst (λ j. IsSome (kept_at y.hots taken_slots j)) e h) in cc)
        | inr ne ↦ s.below k (subst IsSome (kept_stays k ne) h)
      ];
      few = s.few;
      few_lists = s.few_lists;
      spared = λ k h. elim (cases_eq k key) as (λ _. slot_in taken_slots k ≡ Some vacant) [
        | inl e ↦ ap (slot_in taken_slots) e ∙ taken_here
        | inr ne ↦ taken_other k ne ∙ s.spared k (Has-before y.spare.items key k ne (subst (λ l. Has l k) spare_is h))
      ];
      apart = subst IsApart (sym spare_is) (apart_push y.spare.items key away s.apart);
      holds_all = holds;
    }

    pub taken-seen : ◌≡◌ {A = Yard} (record { lists = lists_of y.hots taken_slots y.rows; kept = kept_in y.hots taken_slots y.reached; room = length spare' }) (record v { kept = set v.kept key None; room = v.room + 1 })
    taken-seen =
        subst (λ w. ◌≡◌ {A = Yard} (record { lists = lists_of y.hots taken_slots y.rows; kept = kept_in y.hots taken_slots y.reached; room = length spare' }) (record w { kept = set w.kept key None; room = w.room + 1 })) is_v
        (yard-same _ _ _ _ _ _ taken_lists (kept_in-set y.hots y.hots y.slots.slots taken_slots y.reached key None kept_stays (λ _. kept_gone)) (ap length spare_is ∙ length-append y.spare.items (key ∷ [])))

-- the rest of a car
abbrev pub cold_of : Car → Cold
cold_of c = record { plan = c.plan; at = c.at }

-- a car comes into a spare slot
module _ (y : Inside) (v : Yard) (key : ℕ) (s : IsSound y) (is_v : seen y ≡ v) (rest : List ℕ) (popped : y.spare.items ≡ rest ++ key ∷ []) where
  was_spare : Has y.spare.items key
  was_spare = (rest, [], popped)

  pub spare_slot : slot_in y.slots.slots key ≡ Some vacant
  spare_slot = s.spared key was_spare

  pub spare_key : key < length y.hots
  spare_key = spare_below y s key was_spare

  pub was_nobody : entry_at v key ≡ None
  was_nobody = ap (λ w. entry_at w key) (sym is_v) ∙ entry_at-seen y s key ∙ ap (kept_with (core (hot_at y.hots key))) spare_slot

  parts : Away key rest × Away key [] × IsApart (rest ++ [])
  parts = IsApart-split rest key [] (subst IsApart popped s.apart)

  module _ (car : Car) (ahead behind next : Option ℕ) (next_is : next ≡ link_after (cold_of car)) (new : Slot) (new_is : new ≡ record { car = Some (cold_of car); list = None }) (reached' : ℕ) (reaches : key < reached') (grows : y.reached ≤ reached') (capacity' : ℕ) (holds : length y.hots ≤ capacity') where
    abbrev pub new_hot : Hot
    new_hot = record { ahead = ahead; behind = behind; cell = car.cell; number = car.number; next = next; speed = car.speed; step = car.step; mark = false; size = car.size }

    abbrev pub new_hots : List Hot
    new_hots = set y.hots key new_hot

    abbrev pub new_slots : List (Option Slot)
    new_slots = set y.slots.slots key (Some new)

    hot_here : hot_at new_hots key ≡ new_hot
    hot_here = hot-same y.hots key new_hot spare_key

    new_length : length new_hots ≡ length y.hots
    new_length = length-set y.hots key new_hot

    new_here : slot_in new_slots key ≡ Some (record { car = Some (cold_of car); list = None })
    new_here = slot-same y.slots.slots key vacant new spare_slot ∙ ap Some new_is

    new_other : (j : ℕ) → j ≢ key → slot_in new_slots j ≡ slot_in y.slots.slots j
    new_other j ne = slot-other y.slots.slots key (Some new) j ne

    new_within : (k : ℕ) → IsSome (slot_in new_slots k) → k < length new_hots
    new_within k h = elim (cases_eq k key) as (λ _. k < length new_hots) [
      | inl e ↦ (let b = spare_key in omega (arith, new_length))
      | inr ne ↦ (let b = s.within k (subst IsSome (new_other k ne) h) in omega (arith, new_length))
    ]

    kept_new : kept_at new_hots new_slots key ≡ Some (record { car = car; mark = false; list = None })
    kept_new = ap (kept_with (core (hot_at new_hots key))) new_here ∙ ap (λ (h : Hot). Some (kept_of (core h) None (cold_of car))) hot_here

    kept_rest : (j : ℕ) → j ≢ key → kept_at new_hots new_slots j ≡ kept_at y.hots y.slots.slots j
    kept_rest j ne = ap (λ (h : Hot). kept_with (core h) (slot_in new_slots j)) (hot-other y.hots key new_hot j ne) ∙ ap (kept_with (core (hot_at y.hots j))) (new_other j ne)

    new_below : (k : ℕ) → IsSome (kept_at new_hots new_slots k) → k < reached'
    new_below k h = elim (cases_eq k key) as (λ _. k < reached') [
      | inl e ↦ omega arith
      | inr ne ↦ (let b = s.below k (subst IsSome (kept_rest k ne) h) in omega arith)
    ]

    new_stands : RowsStandFor (links_at new_hots new_slots) y.rows (lists_of y.hots y.slots.slots y.rows)
    new_stands =
        RowsStandFor-loose (links_at y.hots y.slots.slots) (links_at new_hots new_slots) y.rows _ key s.stands
        (ap list_of (links_of-seen y key vacant spare_slot))
        (ap (λ o. list_of (option_map (λ (p : Slot). linked (hot_at new_hots key).ahead (hot_at new_hots key).behind p.list) o)) new_here)
        (λ k ne. ap (λ (h : Hot). option_map (λ (p : Slot). linked h.ahead h.behind p.list) (slot_in new_slots k)) (hot-other y.hots key new_hot k ne) ∙ ap (option_map (λ (p : Slot). linked (hot_at y.hots k).ahead (hot_at y.hots k).behind p.list)) (new_other k ne))

    lists_stay : lists_of new_hots new_slots y.rows ≡ lists_of y.hots y.slots.slots y.rows
    lists_stay = lists_of-stands new_hots new_slots new_within y.rows _ new_stands

    set_lists : lists_of new_hots new_slots y.rows ≡ v.lists
    set_lists = lists_stay ∙ ap (λ (w : Yard). w.lists) is_v

    set_sound : IsLaidOut new_hots new_slots rest reached' capacity' y.rows
    set_sound = record {
      stands = rw lists_stay new_stands;
      within = new_within;
      placed = λ k. elim (cases_eq k key) as (λ _. FitsSlot (hot_at new_hots k).next (slot_in new_slots k)) [
        | inl e ↦ subst (λ j. FitsSlot (hot_at new_hots j).next (slot_in new_slots j)) (sym e) (subst (FitsSlot (hot_at new_hots key).next) (sym new_here) (ap (λ (h : Hot). h.next) hot_here ∙ next_is))
        | inr ne ↦ subst (FitsSlot (hot_at new_hots k).next) (sym (new_other k ne)) (subst (λ (h : Hot). FitsSlot h.next (slot_in y.slots.slots k)) (sym (hot-other y.hots key new_hot k ne)) (s.placed k))
      ];
      below = new_below;
      few = (let a = s.few in omega (arith, new_length));
      few_lists = s.few_lists;
      spared = λ k h. new_other k (λ e. has-away key rest (subst (Has rest) e h) parts.0) ∙ s.spared k (subst (λ l. Has l k) (sym popped) (Has-push rest key k h));
      apart = subst IsApart (append-nil rest) parts.2;
      holds_all = omega (arith, new_length);
    }

    set_updates : (room : ℕ) → Updates v (record { lists = lists_of new_hots new_slots y.rows; kept = kept_in new_hots new_slots reached'; room = room }) key (Some (record { car = car; mark = false; list = None }))
    set_updates room = record {
      changed = kept-read new_hots new_slots reached' key (new_below key) ∙ kept_new;
      others = λ k ne. kept-read new_hots new_slots reached' k (new_below k) ∙ kept_rest k ne ∙ sym (entry_at-seen y s k) ∙ ap (λ w. entry_at w k) is_v;
    }

    -- the same of a list that is that one
    module _ (now : List Hot) (is_now : now ≡ new_hots) where
      pub admitted-lists : lists_of now new_slots y.rows ≡ v.lists
      admitted-lists = subst (λ hots. lists_of hots new_slots y.rows ≡ v.lists) (sym is_now) set_lists

      pub admitted-sound : IsLaidOut now new_slots rest reached' capacity' y.rows
      admitted-sound = subst (λ hots. IsLaidOut hots new_slots rest reached' capacity' y.rows) (sym is_now) set_sound

      pub admitted-updates : (room : ℕ) → Updates v (record { lists = lists_of now new_slots y.rows; kept = kept_in now new_slots reached'; room = room }) key (Some (record { car = car; mark = false; list = None }))
      admitted-updates room = subst (λ hots. Updates v (record { lists = lists_of hots new_slots y.rows; kept = kept_in hots new_slots reached'; room = room }) key (Some (record { car = car; mark = false; list = None }))) (sym is_now) (set_updates room)

not_slot : (o : Option Slot) → (IsSome o → ⊥) → o ≡ None
not_slot None h = refl
not_slot (Some p) h = absurd (h refl)

-- more memory about the same slots
module _ (y : Inside) (v : Yard) (s : IsSound y) (is_v : seen y ≡ v) (hots : List Hot) (hots_are : hots ≡ y.hots) (slots : List (Option Slot)) (slots_are : slots ≡ y.slots.slots) (spare : List ℕ) (spare_is : spare ≡ y.spare.items) where
  pub roomier-sound : (capacity : ℕ) → vec_capacity y.spare ≤ capacity → IsLaidOut hots slots spare y.reached capacity y.rows
  roomier-sound capacity holds =
      rw (hots_are, slots_are, spare_is) (record {
        stands = s.stands;
        within = s.within;
        placed = s.placed;
        below = s.below;
        few = s.few;
        few_lists = s.few_lists;
        spared = s.spared;
        apart = s.apart;
        holds_all = (let a = s.holds_all in omega arith);
      })

  pub roomier-seen : ◌≡◌ {A = Yard} (record { lists = lists_of hots slots y.rows; kept = kept_in hots slots y.reached; room = length spare }) (record v { room = length spare })
  roomier-seen = rw (hots_are, slots_are, ← is_v) refl

-- and as many spare ones
pub room_stays : {E : Type 0} (y : Inside) (v : Yard) (is_v : seen y ≡ v) (spare : List ℕ) (spare_is : spare ≡ y.spare.items) (r : Result (Unit {0}) E) → is_err r ≡ true → length spare ≡ if◌then◌else◌ (is_ok r) (v.room + 1) v.room
room_stays y v is_v spare spare_is (Ok u) failed = absurd (cc)
room_stays y v is_v spare spare_is (Err e) failed = ap length spare_is ∙ ap (λ (w : Yard). w.room) is_v

-- one more slot, which is spare
module _ (y : Inside) (v : Yard) (s : IsSound y) (is_v : seen y ≡ v) (index : ℕ) (index_is : index ≡ length y.hots) (few : index < 4294967295) (hot : Hot) (more : List Hot) (more_is : more ≡ y.hots ++ hot ∷ []) (later : List (Option Slot)) (here : slot_in later index ≡ Some vacant) (others : (j : ℕ) → j ≢ index → slot_in later j ≡ slot_in y.slots.slots j) (spare' : List ℕ) (spare_is : spare' ≡ y.spare.items ++ index ∷ []) (capacity' : ℕ) (holds : index + 1 ≤ capacity') where
  more_length : length more ≡ index + 1
  more_length = (let a = length-append y.hots (hot ∷ []) in ap length more_is ∙ omega arith)

  was_none : slot_in y.slots.slots index ≡ None
  was_none = not_slot (slot_in y.slots.slots index) (λ h. let b = s.within index h in absurd (omega arith))

  hot_stays : (j : ℕ) → j ≢ index → hot_at more j ≡ hot_at y.hots j
  hot_stays j ne = elim (cases_lt j (length y.hots)) as (λ _. hot_at more j ≡ hot_at y.hots j) [
    | inl lt ↦ ap (λ l. hot_at l j) more_is ∙ get_or_append_left y.hots (hot ∷ []) no_hot j lt
    | inr ge ↦ get_or_past more j no_hot (omega (arith, more_length)) ∙ sym (get_or_past y.hots j no_hot ge)
  ]

  more_within : (k : ℕ) → IsSome (slot_in later k) → k < length more
  more_within k h = elim (cases_eq k index) as (λ _. k < length more) [
    | inl e ↦ omega (arith, more_length)
    | inr ne ↦ (let b = s.within k (subst IsSome (others k ne) h) in omega (arith, more_length))
  ]

  kept_all : (j : ℕ) → kept_at more later j ≡ kept_at y.hots y.slots.slots j
  kept_all j = elim (cases_eq j index) as (λ _. kept_at more later j ≡ kept_at y.hots y.slots.slots j) [
    | inl e ↦ ap (kept_at more later) e ∙ ap (kept_with (core (hot_at more index))) here ∙ sym (ap (kept_with (core (hot_at y.hots index))) was_none) ∙ ap (kept_at y.hots y.slots.slots) (sym e)
    | inr ne ↦ ap (λ (h : Hot). kept_with (core h) (slot_in later j)) (hot_stays j ne) ∙ ap (kept_with (core (hot_at y.hots j))) (others j ne)
  ]

  more_stands : RowsStandFor (links_at more later) y.rows (lists_of y.hots y.slots.slots y.rows)
  more_stands =
      RowsStandFor-loose (links_at y.hots y.slots.slots) (links_at more later) y.rows _ index s.stands
      (ap (λ o. list_of (option_map (λ (p : Slot). linked (hot_at y.hots index).ahead (hot_at y.hots index).behind p.list) o)) was_none)
      (ap (λ o. list_of (option_map (λ (p : Slot). linked (hot_at more index).ahead (hot_at more index).behind p.list) o)) here)
      (λ k ne. ap (λ (h : Hot). option_map (λ (p : Slot). linked h.ahead h.behind p.list) (slot_in later k)) (hot_stays k ne) ∙ ap (option_map (λ (p : Slot). linked (hot_at y.hots k).ahead (hot_at y.hots k).behind p.list)) (others k ne))

  more_lists : lists_of more later y.rows ≡ lists_of y.hots y.slots.slots y.rows
  more_lists = lists_of-stands more later more_within y.rows _ more_stands

  index_away : Away index y.spare.items
  index_away = elim (has_or_away index y.spare.items) as (λ _. Away index y.spare.items) [
    | inl h ↦ absurd (let b = spare_below y s index h in omega arith)
    | inr a ↦ a
  ]

  pub grown-sound : IsLaidOut more later spare' y.reached capacity' y.rows
  grown-sound = record {
    stands = rw more_lists more_stands;
    within = more_within;
    placed = λ k. elim (cases_eq k index) as (λ _. FitsSlot (hot_at more k).next (slot_in later k)) [
      | inl e ↦ subst (λ j. FitsSlot (hot_at more j).next (slot_in later j)) (sym e) (subst (FitsSlot (hot_at more index).next) (sym here) refl)
      | inr ne ↦ subst (FitsSlot (hot_at more k).next) (sym (others k ne)) (subst (λ (h : Hot). FitsSlot h.next (slot_in y.slots.slots k)) (sym (hot_stays k ne)) (s.placed k))
    ];
    below = λ k h. s.below k (subst IsSome (kept_all k) h);
    few = omega (arith, more_length);
    few_lists = s.few_lists;
    spared = λ k h. elim (cases_eq k index) as (λ _. slot_in later k ≡ Some vacant) [
      | inl e ↦ ap (slot_in later) e ∙ here
      | inr ne ↦ others k ne ∙ s.spared k (Has-before y.spare.items index k ne (subst (λ l. Has l k) spare_is h))
    ];
    apart = subst IsApart (sym spare_is) (apart_push y.spare.items index index_away s.apart);
    holds_all = omega (arith, more_length);
  }

  pub grown-seen : ◌≡◌ {A = Yard} (record { lists = lists_of more later y.rows; kept = kept_in more later y.reached; room = length spare' }) (record v { room = length spare' })
  grown-seen =
      subst (λ w. ◌≡◌ {A = Yard} (record { lists = lists_of more later y.rows; kept = kept_in more later y.reached; room = length spare' }) (record w { room = length spare' })) is_v
      (yard-same _ _ _ _ _ _ more_lists (kept_in-same y.hots more y.slots.slots later y.reached kept_all) refl)

-- a yard without cars

pub lists_empty : (hots : List Hot) (slots : List (Option Slot)) (rows : List ListRow) (n : ℕ) → hots ≡ [] → slots ≡ [] → rows ≡ replicate n no_row → lists_of hots slots rows ≡ replicate n []
lists_empty hots slots rows n a b e =
    (λ i. lists_of (a i) (b i) (e i)) ∙ lists_of-stands [] [] (λ k h. absurd (let bad : IsSome {T = Slot} None = h in cc)) (replicate n no_row) (replicate n []) (RowsStandFor-empty n)

pub laid_out_empty : (hots : List Hot) (slots : List (Option Slot)) (spare : List ℕ) (capacity : ℕ) (rows : List ListRow) (n : ℕ) → hots ≡ [] → slots ≡ [] → spare ≡ [] → rows ≡ replicate n no_row → n ≤ 4294967295 → IsLaidOut hots slots spare 0 capacity rows
laid_out_empty hots slots spare capacity rows n a b c e few =
    rw (a, b, c, e) (record {
      stands = rw (lists_empty [] [] (replicate n no_row) n refl refl refl) (RowsStandFor-empty n);
      within = λ k h. absurd (let bad : IsSome {T = Slot} None = h in cc);
      placed = λ k. tt;
      below = λ k h. absurd (let bad : IsSome {T = YardEntry} None = h in cc);
      few = omega arith;
      few_lists = omega (arith, length-replicate n no_row);
      spared = λ k h. absurd (nobody_among k h);
      apart = tt;
      holds_all = omega arith;
    })
  where
    nobody_among : (k : ℕ) → Has [] k → ⊥
    nobody_among k ([], vs, h) = cc
    nobody_among k (u ∷ us, vs, h) = cc

-- what a slot tells

pub slot-list : (y : Inside) (v : Yard) (k : ℕ) → IsSound y → seen y ≡ v → (o : Option Slot) → slot_in y.slots.slots k ≡ o → list_on v k ≡ option_and_then (λ (p : Slot). p.list) o
slot-list y v k s is o there =
    ap (λ w. list_on w k) (sym is) ∙ list_on-seen y s k ∙ ap (λ e. list_of (option_map (λ (p : Slot). linked (hot_at y.hots k).ahead (hot_at y.hots k).behind p.list) e)) there ∙ through o
  where
    through : (e : Option Slot) → list_of (option_map (λ (p : Slot). linked (hot_at y.hots k).ahead (hot_at y.hots k).behind p.list) e) ≡ option_and_then (λ (p : Slot). p.list) e
    through None = refl
    through (Some p) = refl

loose_by_car : (t : Core) (car : Option Cold) (list : Option ℕ) → is_some car ≡ true → (IsSomeAnd (option_map (kept_of t list) car) (λ (e : YardEntry). e.list ≡ None) → is_some list ≡ false) × (is_some list ≡ false → IsSomeAnd (option_map (kept_of t list) car) (λ (e : YardEntry). e.list ≡ None))
loose_by_car t None list h = absurd (cc)
loose_by_car t (Some c) None h = ((λ x. refl), (λ x. refl))
loose_by_car t (Some c) (Some n) h = ((λ x. absurd (cc)), (λ x. absurd (cc)))

no_car : (t : Core) (car : Option Cold) (list : Option ℕ) → is_some car ≡ false → IsSomeAnd (option_map (kept_of t list) car) (λ (e : YardEntry). e.list ≡ None) → ⊥
no_car t None list h x = x
no_car t (Some c) list h x = cc

module _ (y : Inside) (v : Yard) (k : ℕ) (s : IsSound y) (is : seen y ≡ v) where
  entry_by_slot : (o : Option Slot) → slot_in y.slots.slots k ≡ o → entry_at v k ≡ kept_with (core (hot_at y.hots k)) o
  entry_by_slot o there = ap (λ w. entry_at w k) (sym is) ∙ entry_at-seen y s k ∙ ap (kept_with (core (hot_at y.hots k))) there

  abbrev pub NoList : Option YardEntry → Type 0
  NoList o = IsSomeAnd o (λ (e : YardEntry). e.list ≡ None)

  -- a key with a car is loose just where its slot names no list
  pub loose-tells : (p : Slot) → slot_in y.slots.slots k ≡ Some p → is_some p.car ≡ true → (IsLoose v k → is_some p.list ≡ false) × (is_some p.list ≡ false → IsLoose v k)
  loose-tells p there has =
      let both = loose_by_car (core (hot_at y.hots k)) p.car p.list has in
      ((λ h. both.0 (subst NoList (entry_by_slot (Some p) there) h)), (λ e. subst NoList (sym (entry_by_slot (Some p) there)) (both.1 e)))

  -- and without a car it is not
  pub loose-not : (p : Slot) → slot_in y.slots.slots k ≡ Some p → is_some p.car ≡ false → IsLoose v k → ⊥
  loose-not p there has h = no_car (core (hot_at y.hots k)) p.car p.list has (subst NoList (entry_by_slot (Some p) there) h)

  pub loose-nowhere : slot_in y.slots.slots k ≡ None → IsLoose v k → ⊥
  loose-nowhere there h = subst NoList (entry_by_slot None there) h
