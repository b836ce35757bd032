-- The two mark passes and the two relink passes make the new arrays.
use Rattle.std.proofs.Common.{◌≡◌, ◌≢◌, ℕ, ◌-◌, Bool, true, false, cond, List, [], ◌∷◌, length, get_or, Option, Some, None, refl, sym, ap, subst, ◌∙◌, inl, inr, arith, ◌==◌, option_map, option_and_then, unwrap_or, filter}
use Rattle.std.proofs.lemmas.Bool.{both_ways, not-true}
use Rattle.std.proofs.lemmas.List.FromFn.{fill_by_all}
use Rattle.street_yard.specs.Prelude.{YardEntry, Yard, list_at, car_of, mark_of, list_on, Has, IsWhole, cell_at, vehicle_with, key_at, seen_at, cells_at, IsFalling, IsLane}
use Rattle.street_base.specs.Prelude.{Vehicle, Cells, Track, vehicle_at, rear, is_covered, AreDisjoint, Changing, changes, settled, changed_cells}
use Rattle.street_base.proofs.CoverLemmas.{rear-le, covered-front, free-uncovered, all-free}
use Rattle.street_base.proofs.LaneChangeLemmas.{changes-beside, changed_cells-apart, changes-empty}
use Rattle.street_rule.specs.Prelude.{is_marked, is_unmarked, put_all, IsOnEither, Relinks, IsFallen, Marks}
use Rattle.street_rule.proofs.ChangeSights.{track}
use Rattle.street_yard.proofs.YardLemmas.{cell_same}
use Rattle.street_yard.proofs.FallingLists.{cells-agree, cells-length, cells-read, seen-none, stands-key, IsLane-agree}
use Rattle.street_rule.proofs.Roads.{KeepsElse}
use Rattle.street_rule.proofs.Exchange.{IsExchange, none-or-key, put_all-same, x_end, y_end, y_mid-falls, x_end-falls, y_end-falls, key-x_end, key-y_end}

module _ (changing : Changing) (lane : ℕ) (own other : Track) (x : ℕ) where
  changes-free : changes changing lane own other x ≡ true → is_covered other.cells x ≡ false
  changes-free e =
      let beside = changes-beside changing lane own other x e in
      free-uncovered other x (all-free other (rear x beside.0) x x beside.2 (rear-le x beside.0) (omega arith))

pub changed_cells-is : (changing : Changing) (lane : ℕ) (own other : Track) (cells : Cells) → length cells ≡ length own.cells → ((x : ℕ) → vehicle_at cells x ≡ settled changing lane own other x) → cells ≡ changed_cells changing lane own other
unfolding changed_cells
changed_cells-is changing lane own other cells len each = fill_by_all (settled changing lane own other) cells (length own.cells) None len (λ k h. each k)

pub settled-is : (changing : Changing) (lane : ℕ) (own other : Track) (x : ℕ) → settled changing lane own other x ≡ cond (changes changing (1 - lane) other own x) (vehicle_at other.cells x) (cond (changes changing lane own other x) None (vehicle_at own.cells x))
unfolding settled
settled-is changing lane own other x = refl

key_at-same : (f g : ℕ → ℕ) (xs : List ℕ) (x : ℕ) → ((k : ℕ) → f k ≡ g k) → key_at f xs x ≡ key_at g xs x
key_at-same f g [] x same = refl
key_at-same f g (k ∷ ks) x same = ap (λ n. cond (n == x) (Some k) (key_at f ks x)) (same k) ∙ ap (cond (g k == x) (Some k)) (key_at-same f g ks x same)

falling-same : (f g : ℕ → ℕ) (bound : ℕ) (xs : List ℕ) → ((k : ℕ) → f k ≡ g k) → IsFalling f bound xs → IsFalling g bound xs
falling-same f g bound [] same h = tt
falling-same f g bound (k ∷ ks) same h = ((let e = same k in let a = h.0 in omega arith), subst (λ n. IsFalling g n ks) (same k) (falling-same f g (f k) ks same h.1))

module _ (old new : Yard) (cars : (k : ℕ) → car_of new k ≡ car_of old k) where
  with-same : (o : Option ℕ) → option_and_then (vehicle_with new) o ≡ option_and_then (vehicle_with old) o
  with-same None = refl
  with-same (Some k) = ap (option_map _) (cars k)

  seen-by : (n : ℕ) (xs : List ℕ) (x : ℕ) → list_at new n ≡ xs → seen_at new n x ≡ option_and_then (vehicle_with old) (key_at (cell_at old) xs x)
  seen-by n xs x e =
      ap (λ l. option_and_then (vehicle_with new) (key_at (cell_at new) l x)) e
      ∙ ap (option_and_then (vehicle_with new)) (key_at-same (cell_at new) (cell_at old) xs x (cell_same old new cars))
      ∙ with-same (key_at (cell_at old) xs x)

  pub falls-by : (n count : ℕ) (xs : List ℕ) → list_at new n ≡ xs → IsFalling (cell_at old) count xs → IsFalling (cell_at new) count (list_at new n)
  falls-by n count xs e f = subst (IsFalling (cell_at new) count) (sym e) (falling-same (cell_at old) (cell_at new) count xs (λ k. sym (cell_same old new cars k)) f)

list_on-same : (old new : Yard) (n k : ℕ) → IsWhole old → IsWhole new → list_at new n ≡ list_at old n → list_on old k ≡ Some n → list_on new k ≡ Some n
list_on-same old new n k w v e on = v.names k n (subst (λ l. Has l k) (sym e) (w.listed k n on))

elsewhere : (o : Option ℕ) (a b : ℕ) → a ≢ b → o ≡ Some a → o ≢ Some b
elsewhere o a b ne e f = ne (let s : ◌≡◌ {A = Option ℕ} (Some a) (Some b) = sym e ∙ f in cc)

pub marks-lane : (old new : Yard) (own n count : ℕ) (test : ℕ → Bool) → Marks old new own test → IsLane old n count → IsLane new n count
marks-lane old new own n count test m lane = IsLane-agree old new n (ap (λ l. get_or l n []) m.lists) (λ k h. m.cars k) count lane

as_track : Cells → List Bool → Track
as_track cells closed = record { cells = cells; closed = closed }

then-cond : (f : ℕ → Option Vehicle) (s t : Bool) (a b : Option ℕ) → option_and_then f (cond s b (cond t None a)) ≡ cond s (option_and_then f b) (cond t None (option_and_then f a))
then-cond f true t a b = refl
then-cond f false true a b = refl
then-cond f false false a b = refl

abbrev place_in : Option YardEntry → Option ℕ
place_in o = option_and_then (λ (e : YardEntry). e.list) o

abbrev mark_in : Option YardEntry → Option Bool
mark_in o = option_map (λ (e : YardEntry). e.mark) o

module _ (changing : Changing) (old m1 m2 r1 : Yard) (a b count : ℕ) (ac bc : List Bool) (whole : IsWhole old) (apart : a ≢ b) (la : IsLane old a count) (lb : IsLane old b count)
    (one : Marks old m1 a (changes changing 0 (track old a count ac) (track old b count bc)))
    (two : Marks m1 m2 b (changes changing 1 (track m1 b count bc) (track m1 a count ac)))
    (three : Relinks m2 r1 a b) where
  abbrev pub ca : ℕ → Bool
  ca = changes changing 0 (track old a count ac) (track old b count bc)

  abbrev pub cb : ℕ → Bool
  cb = changes changing 1 (track old b count bc) (track old a count ac)

  at1 : (n : ℕ) → list_at m1 n ≡ list_at old n
  at1 n = ap (λ l. get_or l n []) one.lists

  at2 : (n : ℕ) → list_at m2 n ≡ list_at old n
  at2 n = ap (λ l. get_or l n []) two.lists ∙ at1 n

  cars2 : (k : ℕ) → car_of m2 k ≡ car_of old k
  cars2 k = two.cars k ∙ one.cars k

  pub cars3 : (k : ℕ) → car_of r1 k ≡ car_of old k
  cars3 k = three.rest.cars k ∙ cars2 k

  second-test : (x : ℕ) → changes changing 1 (track m1 b count bc) (track m1 a count ac) x ≡ cb x
  unfolding as_track
  second-test x =
      ap (λ cs. changes changing 1 (as_track cs bc) (track m1 a count ac) x) (cells-agree old m1 b (at1 b) (λ k h. one.cars k) count)
      ∙ ap (λ cs. changes changing 1 (track old b count bc) (as_track cs ac) x) (cells-agree old m1 a (at1 a) (λ k h. one.cars k) count)

  marks-a : (k : ℕ) → Has (list_at old a) k → mark_of m2 k ≡ Some (ca (cell_at old k))
  marks-a k h =
      let on = whole.names k a h in
      ap mark_in (two.others k (elsewhere (list_on m1 k) a b apart (list_on-same old m1 a k whole one.whole (at1 a) on))) ∙ one.marked k on

  marks-b : (k : ℕ) → Has (list_at old b) k → mark_of m2 k ≡ Some (cb (cell_at old k))
  marks-b k h =
      let on = whole.names k b h in
      two.marked k (list_on-same old m1 b k whole one.whole (at1 b) on)
      ∙ ap Some (second-test (cell_at m1 k) ∙ ap cb (cell_same old m1 one.cars k))

  place2 : (n k : ℕ) → Has (list_at old n) k → list_on m2 k ≡ Some n
  place2 n k h = list_on-same old m2 n k whole two.whole (at2 n) (whole.names k n h)

  nobody : (n x : ℕ) → IsLane old n count → is_covered (cells_at old n count) x ≡ false → key_at (cell_at old) (list_at old n) x ≡ None
  nobody n x lane e = elim (none-or-key (key_at (cell_at old) (list_at old n) x)) as (λ _. key_at (cell_at old) (list_at old n) x ≡ None) [
    | inl none ↦ none
    | inr some ↦ absurd (let s = stands-key old n count whole lane.falls x some.0 some.1 in both_ways (is_covered (cells_at old n count) x) e (covered-front (cells_at old n count) x s.0 s.1))
  ]

  pub is-exchange : IsExchange (cell_at old) count (list_at old a) (list_at old b) (is_marked m2) (is_marked r1) ca cb
  is-exchange = record {
    x_falls = la.falls;
    y_falls = lb.falls;
    x_marks = λ k h. ap (λ o. unwrap_or o false) (marks-a k h);
    y_marks = λ k h. ap (λ o. unwrap_or o false) (marks-b k h);
    x_later = λ k h. not-true _ (three.cleared k (place2 a k h));
    y_later = λ k h. ap (λ o. unwrap_or o false) (ap mark_in (three.rest.entries k (elsewhere (list_on m2 k) b a (λ e. apart (sym e)) (place2 b k h))) ∙ marks-b k h);
    x_free = λ x t. nobody b x lb (changes-free changing 0 (track old a count ac) (track old b count bc) x t);
    y_free = λ x t. nobody a x la (changes-free changing 1 (track old b count bc) (track old a count ac) x t);
    x_there = λ x n. changes-empty changing 0 (track old a count ac) (track old b count bc) x (seen-none old a count whole la.falls x n);
    y_there = λ x n. changes-empty changing 1 (track old b count bc) (track old a count ac) x (seen-none old b count whole lb.falls x n);
  }

  list3a : list_at r1 a ≡ filter (is_unmarked m2) (list_at old a)
  list3a = three.from_list ∙ ap (filter (is_unmarked m2)) (at2 a)

  list3b : list_at r1 b ≡ put_all (cell_at old) (filter (is_marked m2) (list_at old a)) (list_at old b)
  list3b =
      three.to_list ∙ ap (λ l. put_all (cell_at m2) (filter (is_marked m2) l) (list_at m2 b)) (at2 a) ∙ ap (put_all (cell_at m2) (filter (is_marked m2) (list_at old a))) (at2 b)
      ∙ put_all-same (cell_at m2) (cell_at old) (filter (is_marked m2) (list_at old a)) (list_at old b) (cell_same old m2 cars2)

  pub second_falls : IsFallen r1 b
  second_falls = record {
    bound = count;
    falls = falls-by old r1 cars3 b count _ list3b (y_mid-falls (cell_at old) count (list_at old a) (list_at old b) (is_marked m2) (is_marked r1) ca cb is-exchange);
  }

  module _ (now : Yard) (four : Relinks r1 now b a) where
    cars4 : (k : ℕ) → car_of now k ≡ car_of old k
    cars4 k = four.rest.cars k ∙ cars3 k

    list4b : list_at now b ≡ y_end (cell_at old) count (list_at old a) (list_at old b) (is_marked m2) (is_marked r1) ca cb is-exchange
    list4b = four.from_list ∙ ap (filter (is_unmarked r1)) list3b

    list4a : list_at now a ≡ x_end (cell_at old) count (list_at old a) (list_at old b) (is_marked m2) (is_marked r1) ca cb is-exchange
    list4a =
        four.to_list ∙ ap (λ l. put_all (cell_at r1) (filter (is_marked r1) l) (list_at r1 a)) list3b
        ∙ ap (put_all (cell_at r1) (filter (is_marked r1) (put_all (cell_at old) (filter (is_marked m2) (list_at old a)) (list_at old b)))) list3a
        ∙ put_all-same (cell_at r1) (cell_at old) (filter (is_marked r1) (put_all (cell_at old) (filter (is_marked m2) (list_at old a)) (list_at old b))) (filter (is_unmarked m2) (list_at old a)) (cell_same old r1 cars3)

    first_falls : IsFalling (cell_at now) count (list_at now a)
    first_falls = falls-by old now cars4 a count _ list4a (x_end-falls (cell_at old) count (list_at old a) (list_at old b) (is_marked m2) (is_marked r1) ca cb is-exchange)

    second_falls_too : IsFalling (cell_at now) count (list_at now b)
    second_falls_too = falls-by old now cars4 b count _ list4b (y_end-falls (cell_at old) count (list_at old a) (list_at old b) (is_marked m2) (is_marked r1) ca cb is-exchange)

    read-a : (x : ℕ) → vehicle_at (cells_at now a count) x ≡ cond (cb x) (vehicle_at (cells_at old b count) x) (cond (ca x) None (vehicle_at (cells_at old a count) x))
    read-a x =
        cells-read now a count four.rest.whole first_falls x
        ∙ seen-by old now cars4 a _ x list4a
        ∙ ap (option_and_then (vehicle_with old)) (key-x_end (cell_at old) count (list_at old a) (list_at old b) (is_marked m2) (is_marked r1) ca cb is-exchange x)
        ∙ then-cond (vehicle_with old) (cb x) (ca x) (key_at (cell_at old) (list_at old a) x) (key_at (cell_at old) (list_at old b) x)
        ∙ ap (λ o. cond (cb x) o (cond (ca x) None (seen_at old a x))) (sym (cells-read old b count whole lb.falls x))
        ∙ ap (λ o. cond (cb x) (vehicle_at (cells_at old b count) x) (cond (ca x) None o)) (sym (cells-read old a count whole la.falls x))

    read-b : (x : ℕ) → vehicle_at (cells_at now b count) x ≡ cond (ca x) (vehicle_at (cells_at old a count) x) (cond (cb x) None (vehicle_at (cells_at old b count) x))
    read-b x =
        cells-read now b count four.rest.whole second_falls_too x
        ∙ seen-by old now cars4 b _ x list4b
        ∙ ap (option_and_then (vehicle_with old)) (key-y_end (cell_at old) count (list_at old a) (list_at old b) (is_marked m2) (is_marked r1) ca cb is-exchange x)
        ∙ then-cond (vehicle_with old) (ca x) (cb x) (key_at (cell_at old) (list_at old b) x) (key_at (cell_at old) (list_at old a) x)
        ∙ ap (λ o. cond (ca x) o (cond (cb x) None (seen_at old b x))) (sym (cells-read old a count whole la.falls x))
        ∙ ap (λ o. cond (ca x) (vehicle_at (cells_at old a count) x) (cond (cb x) None o)) (sym (cells-read old b count whole lb.falls x))

    pub first_changed : cells_at now a count ≡ changed_cells changing 0 (track old a count ac) (track old b count bc)
    first_changed =
        changed_cells-is changing 0 (track old a count ac) (track old b count bc) (cells_at now a count)
        (cells-length now a count four.rest.whole first_falls ∙ sym (cells-length old a count whole la.falls))
        (λ x. read-a x ∙ sym (settled-is changing 0 (track old a count ac) (track old b count bc) x))

    pub second_changed : cells_at now b count ≡ changed_cells changing 1 (track old b count bc) (track old a count ac)
    second_changed =
        changed_cells-is changing 1 (track old b count bc) (track old a count ac) (cells_at now b count)
        (cells-length now b count four.rest.whole second_falls_too ∙ sym (cells-length old b count whole lb.falls))
        (λ x. read-b x ∙ sym (settled-is changing 1 (track old b count bc) (track old a count ac) x))

    pub first_lane : IsLane now a count
    first_lane = record {
      falls = first_falls;
      disjoint = subst AreDisjoint (sym first_changed) (changed_cells-apart changing 0 (track old a count ac) (track old b count bc) la.disjoint lb.disjoint);
    }

    pub second_lane : IsLane now b count
    second_lane = record {
      falls = second_falls_too;
      disjoint = subst AreDisjoint (sym second_changed) (changed_cells-apart changing 1 (track old b count bc) (track old a count ac) lb.disjoint la.disjoint);
    }

    at_first : (k : ℕ) → list_on m2 k ≡ list_on old k
    at_first k = two.lists_on k ∙ one.lists_on k

    from_m2 : (k : ℕ) → list_on old k ≢ Some a → list_on r1 k ≡ list_on old k
    from_m2 k off = ap place_in (three.rest.entries k (λ e. off (sym (at_first k) ∙ e))) ∙ at_first k

    swapped : (k : ℕ) → IsOnEither now b a k → IsOnEither now a b k
    swapped k on = elim on as (λ _. IsOnEither now a b k) [ inl e ↦ inr e | inr e ↦ inl e ]

    stays : (k : ℕ) → IsOnEither old a b k → IsOnEither now a b k
    stays k on = elim on as (λ _. IsOnEither now a b k) [
      | inl e ↦ elim (three.rest.stays k (at_first k ∙ e)) as (λ _. IsOnEither now a b k) [
        | inl f ↦ inl (ap place_in (four.rest.entries k (elsewhere (list_on r1 k) a b apart f)) ∙ f)
        | inr f ↦ swapped k (four.rest.stays k f)
      ]
      | inr e ↦ swapped k (four.rest.stays k (from_m2 k (elsewhere (list_on old k) b a (λ f. apart (sym f)) e) ∙ e))
    ]

    -- all else stays
    pub keeps : KeepsElse old now a b
    keeps = record {
      lists = λ n off_a off_b. four.rest.lists n off_b off_a ∙ three.rest.lists n off_a off_b ∙ at2 n;
      cars = cars4;
      entries = λ k off_a off_b.
          four.rest.entries k (λ e. off_b (sym (from_m2 k off_a) ∙ e)) ∙ three.rest.entries k (λ e. off_a (sym (at_first k) ∙ e))
          ∙ two.others k (λ e. off_b (sym (one.lists_on k) ∙ e)) ∙ one.others k off_a;
      stays = stays;
      count = four.rest.count ∙ three.rest.count ∙ ap length two.lists ∙ ap length one.lists;
      room = four.rest.room ∙ three.rest.room ∙ two.room ∙ one.room;
      whole = four.rest.whole;
    }
