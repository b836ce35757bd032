-- What a driver sees, by the neighbours on the lists.
use Rattle.std.proofs.Common.{◌≡◌, ℕ, zero, suc, ◌+◌, ◌-◌, ◌<◌, ◌≤◌, Bool, true, false, List, [], ◌∷◌, ◌++◌, length, Option, Some, None, refl, sym, ap, subst, ◌∙◌, inl, inr, arith, ◌&&◌, not, nat_lt, MatchOption, option_map, unwrap_or}
use Rattle.std.specs.List.{list_all, range_with_len}
use Rattle.std.proofs.lemmas.Bool.{cases_Bool, cases_lt, both_ways, cond-true, cond-false, lt-ltb, le-ltb, or_left}
use Rattle.std.proofs.lemmas.List.{append_assoc}
use Rattle.street_yard.specs.Prelude.{Yard, list_at, first_or, last_or, IsWhole, cell_at, rear_at, vehicle_with, key_at, cells_at, IsFalling, IsLane, AllAbove}
use Rattle.street_yard.proofs.Keys.{snoc_cases, last_or-push}
use Rattle.street_yard.proofs.YardLemmas.{AllAbove-lower}
use Rattle.street_base.specs.Prelude.{Vehicle, next_link, Track, vehicle_at, rear, is_covered, is_closed, is_free, are_free, is_obstacle, Changing, free_ahead, free_behind, wishes, is_safe, changes}
use Rattle.street_base.proofs.CoverLemmas.{rear-le, free-uncovered, all-free}
use Rattle.street_base.proofs.SearchLemmas.{least-to}
use Rattle.street_gap.specs.Prelude.{entrance_after, lesser}
use Rattle.street_gap.proofs.Sights.{AllAbove-last, uncovered, obstacle-is, gap-behind-is, clear-of-key}
use Rattle.street_rule.specs.Prelude.{change_gap_to, change_gap_ahead, change_gap_behind, has_room, has_room_between, wishes_with, decision}
use Rattle.street_yard.proofs.FallingLists.{falling-below, falling-split, key_at-split, rear-under, cells-length, seen-key, stands-key, covered-key}

-- the track of a list, with these closed marks
abbrev pub track : Yard → ℕ → ℕ → List Bool → Track
track y n count closed = record { cells = cells_at y n count; closed = closed }

-- cells that nobody covers are free where they are open
free-where-open : (t : Track) (low count : ℕ) → ((z : ℕ) → low ≤ z → z < low + count → is_covered t.cells z ≡ false) → list_all (is_free t) (range_with_len low count) ≡ list_all (λ z. not (is_closed t.closed z)) (range_with_len low count)
free-where-open t low zero none = refl
free-where-open t low (suc count) none = rw (none low (omega arith) (omega arith), free-where-open t (low + 1) count (λ z a b. none z (omega arith) (omega arith))) refl

-- a cell that somebody covers makes them not free
blocked : (t : Track) (low high z : ℕ) → low ≤ z → z ≤ high → is_covered t.cells z ≡ true → are_free t low high ≡ false
blocked t low high z a b c = elim (cases_Bool (are_free t low high)) as (λ _. are_free t low high ≡ false) [
  | inl f ↦ absurd (both_ways (is_covered t.cells z) (free-uncovered t z (all-free t low high z f a b)) c)
  | inr f ↦ f
]

no-gap : (speed r x : ℕ) (e : Option ℕ) → r ≤ x → nat_lt (speed + 1) (change_gap_to (lesser (Some r) e) x) ≡ false
no-gap speed r x None h = le-ltb (speed + 1) (r - x - 1) (omega arith)
no-gap speed r x (Some e) h = elim (cases_lt r e) as (λ _. nat_lt (speed + 1) (change_gap_to (lesser (Some r) (Some e)) x) ≡ false) [
  | inl l ↦ ap (λ o. nat_lt (speed + 1) (change_gap_to o x)) (cond-true _ _ _ (lt-ltb r e l)) ∙ le-ltb (speed + 1) (r - x - 1) (omega arith)
  | inr g ↦ ap (λ o. nat_lt (speed + 1) (change_gap_to o x)) (cond-false _ _ _ (le-ltb r e g)) ∙ le-ltb (speed + 1) (e - x - 1) (omega arith)
]

nothing-ahead : (free_is shut : Bool) (a b c : Bool) → a ≡ false → free_is ≡ false → (shut && (a && b)) ≡ (free_is && c)
nothing-ahead free_is true a b c e f = rw (e, f) refl
nothing-ahead free_is false a b c e f = rw f refl

nothing-behind : (free_is shut : Bool) (a b c : Bool) → b ≡ false → free_is ≡ false → (shut && (a && b)) ≡ (free_is && c)
nothing-behind free_is true true b c e f = rw (e, f) refl
nothing-behind free_is true false b c e f = rw f refl
nothing-behind free_is false a b c e f = rw f refl

module _ (y : Yard) (n count : ℕ) (whole : IsWhole y) (lane : IsLane y n count) (up down : List ℕ) (split : list_at y n ≡ up ++ down) (x : ℕ) (above : AllAbove (cell_at y) x up) (below : IsFalling (cell_at y) (x + 1) down) (closed : List Bool) (len : length closed ≡ count) where
  pub gap-ahead-is : MatchOption (last_or up None) (Unit {0}) (λ k. x < rear_at y k) → free_ahead (track y n count closed) x ≡ change_gap_ahead closed (option_map (rear_at y) (last_or up None)) x
  gap-ahead-is clear = ap (λ r. unwrap_or (option_map (λ z. z - x - 1) r) 16) (obstacle-is y n count whole lane up down split x above clear below closed len)

  -- whether there is room beside, by the vehicles above x, and at it or below
  module _ (r speed : ℕ) (low : r ≤ x) (is_open : Bool) (open_is : is_open ≡ list_all (λ z. not (is_closed closed z)) (range_with_len r (x + 1 - r))) where
    abbrev pub RoomIs : Type 0
    RoomIs = has_room_between closed is_open (option_map (rear_at y) (last_or up None)) (option_map (cell_at y) (first_or down None)) x r speed ≡ has_room (track y n count closed) x r speed

    -- nobody reaches a cell beside
    room-clear : MatchOption (last_or up None) (Unit {0}) (λ k. x < rear_at y k) → IsFalling (cell_at y) r down → RoomIs
    room-clear clear under =
        let above_r : AllAbove (cell_at y) r up = AllAbove-lower (cell_at y) r x up low above in
        let clear_of : (u : ℕ) → last_or up None ≡ Some u → x < rear_at y u = λ u is. subst (λ o. MatchOption o (Unit {0}) (λ k. x < rear_at y k)) is clear in
        let clear_r : MatchOption (last_or up None) (Unit {0}) (λ k. r < rear_at y k) = clear-lower (last_or up None) clear in
        let none : (z : ℕ) → r ≤ z → z < r + (x + 1 - r) → is_covered (cells_at y n count) z ≡ false =
        λ z a b. uncovered y n count whole lane up down split x above clear z (λ w c. falling-below (cell_at y) r down w under (omega arith)) (λ u is. (let h = clear_of u is in omega arith)) in
        let free : are_free (track y n count closed) r x ≡ is_open = free-where-open (track y n count closed) r (x + 1 - r) none ∙ sym open_is in
        let ahead = gap-ahead-is clear in
        let behind : free_behind (track y n count closed) r ≡ change_gap_behind (option_map (cell_at y) (first_or down None)) r = ap (λ o. unwrap_or o 16) (gap-behind-is y n count whole lane up down split r above_r clear_r under) in
        rw (free, ahead, behind) refl
      where
        clear-lower : (o : Option ℕ) → MatchOption o (Unit {0}) (λ k. x < rear_at y k) → MatchOption o (Unit {0}) (λ k. r < rear_at y k)
        clear-lower None c = tt
        clear-lower (Some k) c = (let h : x < rear_at y k = c in omega arith)

    -- somebody ahead reaches down to the cell beside the front
    room-ahead : (u : ℕ) → (us : List ℕ) → up ≡ us ++ u ∷ [] → rear_at y u ≤ x → RoomIs
    room-ahead u us e reach =
        let last : last_or up None ≡ Some u = ap (λ l. last_or l None) e ∙ last_or-push us u None in
        let parts : list_at y n ≡ us ++ u ∷ down = split ∙ ap (λ l. l ++ down) e ∙ append_assoc us (u ∷ []) down in
        let falls : IsFalling (cell_at y) count (us ++ u ∷ down) = subst (IsFalling (cell_at y) count) parts lane.falls in
        let here : key_at (cell_at y) (list_at y n) (cell_at y u) ≡ Some u = ap (λ l. key_at (cell_at y) l (cell_at y u)) parts ∙ key_at-split (cell_at y) count us u down falls in
        let over : x < cell_at y u = AllAbove-last (cell_at y) x us u [] (subst (AllAbove (cell_at y) x) e above) in
        let covered = covered-key y n count whole lane.falls (cell_at y u) u x here reach (omega arith) in
        let gap : nat_lt (speed + 1) (change_gap_ahead closed (option_map (rear_at y) (last_or up None)) x) ≡ false = ap (λ o. nat_lt (speed + 1) (change_gap_ahead closed (option_map (rear_at y) o) x)) last ∙ no-gap speed (rear_at y u) x (entrance_after closed x) reach in
        nothing-ahead (are_free (track y n count closed) r x) is_open _ _ _ gap (blocked (track y n count closed) r x x low (omega arith) covered)

    -- somebody stands beside the tail
    room-behind : (v : ℕ) (vs : List ℕ) → down ≡ v ∷ vs → r ≤ cell_at y v → RoomIs
    room-behind v vs e over =
        let first : first_or down None ≡ Some v = ap (λ l. first_or l None) e in
        let parts : list_at y n ≡ up ++ v ∷ vs = split ∙ ap (λ l. up ++ l) e in
        let falls : IsFalling (cell_at y) count (up ++ v ∷ vs) = subst (IsFalling (cell_at y) count) parts lane.falls in
        let here : key_at (cell_at y) (list_at y n) (cell_at y v) ≡ Some v = ap (λ l. key_at (cell_at y) l (cell_at y v)) parts ∙ key_at-split (cell_at y) count up v vs falls in
        let stands = stands-key y n count whole lane.falls (cell_at y v) v here in
        let le = rear-le (cell_at y v) stands.0 in
        let same = stands.2 in
        let covered = covered-key y n count whole lane.falls (cell_at y v) v (cell_at y v) here (omega arith) (omega arith) in
        let under = (subst (IsFalling (cell_at y) (x + 1)) e below).0 in
        let gap : nat_lt 5 (change_gap_behind (option_map (cell_at y) (first_or down None)) r) ≡ false = ap (λ o. nat_lt 5 (change_gap_behind (option_map (cell_at y) o) r)) first ∙ le-ltb 5 (r - cell_at y v - 1) (omega arith) in
        nothing-behind (are_free (track y n count closed) r x) is_open _ _ _ gap (blocked (track y n count closed) r x (cell_at y v) over (omega arith) covered)

    by-down : (d : List ℕ) → down ≡ d → MatchOption (last_or up None) (Unit {0}) (λ k. x < rear_at y k) → RoomIs
    by-down [] e clear = room-clear clear (subst (IsFalling (cell_at y) r) (sym e) tt)
    by-down (v ∷ vs) e clear = elim (cases_lt (cell_at y v) r) as (λ _. RoomIs) [
      | inl under ↦ room-clear clear (subst (IsFalling (cell_at y) r) (sym e) (under, (subst (IsFalling (cell_at y) (x + 1)) e below).1))
      | inr over ↦ room-behind v vs e over
    ]

    pub room-is : RoomIs
    room-is = elim (snoc_cases up) as (λ _. RoomIs) [
      | inl e ↦ by-down down refl (subst (λ o. MatchOption o (Unit {0}) (λ k. x < rear_at y k)) (sym (ap (λ l. last_or l None) e)) tt)
      | inr s ↦ elim (cases_lt x (rear_at y s.1)) as (λ _. RoomIs) [
        | inl clear ↦ by-down down refl (subst (λ o. MatchOption o (Unit {0}) (λ k. x < rear_at y k)) (sym (ap (λ l. last_or l None) s.2 ∙ last_or-push s.0 s.1 None)) clear)
        | inr reach ↦ room-ahead s.1 s.0 s.2 reach
      ]
    ]

shut-cells : (a b : Bool) → a ≡ false → (a && b) ≡ false
shut-cells a b e = rw e refl

shut-ahead : (a b c : Bool) → b ≡ false → (a && (b && c)) ≡ false
shut-ahead true b c e = rw e refl
shut-ahead false b c e = refl

-- there is no room where a vehicle above the cell has its rear near, whoever is between
pub no-room-near : (y : Yard) (n count : ℕ) → IsWhole y → IsLane y n count → (us : List ℕ) (u : ℕ) (down : List ℕ) → list_at y n ≡ us ++ u ∷ down → (x : ℕ) → x < cell_at y u
    → (closed : List Bool) (r speed : ℕ) → r ≤ x → rear_at y u ≤ x + speed + 2 → has_room (track y n count closed) x r speed ≡ false
no-room-near y n count whole lane us u down split x over closed r speed low near =
    let falls : IsFalling (cell_at y) count (us ++ u ∷ down) = subst (IsFalling (cell_at y) count) split lane.falls in
    let inside = (falling-split (cell_at y) count us u down falls).1 in
    let here : key_at (cell_at y) (list_at y n) (cell_at y u) ≡ Some u = ap (λ l. key_at (cell_at y) l (cell_at y u)) split ∙ key_at-split (cell_at y) count us u down falls in
    let back = rear-under y u in
    elim (cases_lt x (rear_at y u)) as (λ _. has_room (track y n count closed) x r speed ≡ false) [
      | inl clear ↦ (
          let covered = covered-key y n count whole lane.falls (cell_at y u) u (rear_at y u) here (omega arith) (omega arith) in
          let size : length (cells_at y n count) ≡ count = cells-length y n count whole lane.falls in
          let found = least-to (is_obstacle (cells_at y n count) closed) (x + 1) (length (cells_at y n count)) (rear_at y u) (or_left _ _ covered) (omega arith) (omega (arith, size, inside, back)) in
          let least = found.2 in
          shut-ahead (are_free (track y n count closed) r x) _ _ (ap (λ o. nat_lt (speed + 1) (unwrap_or (option_map (λ z. z - x - 1) o) 16)) found.1 ∙ le-ltb (speed + 1) (found.0 - x - 1) (omega (arith, near, least))))
      | inr reach ↦ shut-cells _ _ (blocked (track y n count closed) r x x low (omega arith) (covered-key y n count whole lane.falls (cell_at y u) u x here reach (omega arith)))
    ]

-- the vehicle of a cell changes if the cells beside are free, it wishes to, it is safe and it may
by_parts : (free wish safe may : Bool) → (free && wish && safe && may) ≡ (wish && ((free && safe) && may))
by_parts true true safe may = refl
by_parts true false safe may = refl
by_parts false true safe may = refl
by_parts false false safe may = refl

module _ (changing : Changing) (lane count : ℕ) (own_closed other_closed : List Bool) (y : Yard) (own other : ℕ) (whole : IsWhole y) (own_lane : IsLane y own count) (own_len : length own_closed ≡ count) where
  module _ (key : ℕ) (v : Vehicle) (is : vehicle_with y key ≡ Some v) where
    as-read : key_at (cell_at y) (list_at y own) (cell_at y key) ≡ Some key → changes changing lane (track y own count own_closed) (track y other count other_closed) (cell_at y key)
        ≡ (are_free (track y other count other_closed) (rear (cell_at y key) v) (cell_at y key) && wishes changing lane (track y own count own_closed) (track y other count other_closed) (cell_at y key) v && is_safe changing lane (track y own count own_closed) (track y other count other_closed) (cell_at y key) v && changing.may_change v.number)
    unfolding changes
    as-read at =
        let s = seen-key y own count whole own_lane.falls (cell_at y key) key at in
        let there : vehicle_at (cells_at y own count) (cell_at y key) ≡ Some v = s.2 ∙ sym s.1 ∙ is in
        rw there refl

    pub decides : (done rest : List ℕ) (ahead : Option ℕ) → list_at y own ≡ done ++ key ∷ rest → ahead ≡ option_map (rear_at y) (last_or done None)
        → changes changing lane (track y own count own_closed) (track y other count other_closed) (cell_at y key) ≡ decision changing lane count own_closed ahead (track y other count other_closed) (cell_at y key) v
    decides done rest ahead split ahead_is =
        let x = cell_at y key in
        let f : IsFalling (cell_at y) count (done ++ key ∷ rest) = subst (IsFalling (cell_at y) count) split own_lane.falls in
        let parts = falling-split (cell_at y) count done key rest f in
        let from : IsFalling (cell_at y) (x + 1) (key ∷ rest) = ((let h : x < x + 1 = omega arith in h), parts.2) in
        let at : key_at (cell_at y) (list_at y own) x ≡ Some key = ap (λ l. key_at (cell_at y) l x) split ∙ key_at-split (cell_at y) count done key rest f in
        let gap : free_ahead (track y own count own_closed) x ≡ change_gap_ahead own_closed ahead x =
        gap-ahead-is y own count whole own_lane done (key ∷ rest) split x parts.0 from own_closed own_len (clear-of-key y own count key done rest whole own_lane split) ∙ ap (λ o. change_gap_ahead own_closed o x) (sym ahead_is) in
        let size : length (cells_at y own count) ≡ count = cells-length y own count whole own_lane.falls in
        let wish : wishes changing lane (track y own count own_closed) (track y other count other_closed) x v ≡ wishes_with changing lane count (change_gap_ahead own_closed ahead x) x v.speed (next_link v) = rw (gap, size) refl in
        as-read at
        ∙ by_parts (are_free (track y other count other_closed) (rear x v) x) (wishes changing lane (track y own count own_closed) (track y other count other_closed) x v) (is_safe changing lane (track y own count own_closed) (track y other count other_closed) x v) (changing.may_change v.number)
        ∙ ap (λ w. w && (has_room (track y other count other_closed) x (rear x v) v.speed && changing.may_change v.number)) wish
