-- Cars under other keys.
use Rattle.std.proofs.Common.{◌≡◌, ◌≢◌, ℕ, ◌<◌, cond, List, [], ◌∷◌, ◌++◌, length, map, get_or, IsSomeAnd, Option, Some, None, refl, sym, ap, subst, ◌∙◌, inl, inr, arith, ◌==◌, filter_map, option_map, option_and_then, unwrap_or}
use Rattle.std.specs.List.{cons_option, range_with_len}
use Rattle.std.proofs.lemmas.Bool.{cases_Bool, cases_eq}
use Rattle.std.proofs.lemmas.List.{length-set, map-append}
use Rattle.street_base.specs.declared.car.Car.{Car}
use Rattle.street_base.specs.Prelude.{Vehicle, vehicle_of, AreDisjoint}
use Rattle.street_rule.specs.Prelude.{Odds}
use Rattle.street_gap.specs.declared.closures.Stretch.{Stretch}
use Rattle.street_gap.specs.Prelude.{closed_marks}
use Rattle.street_yard.specs.Prelude.{YardEntry, Yard, list_at, entry_at, car_of, list_on, Has, IsWhole, Renews, cell_at, vehicle_with, key_at, seen_at, cells_at, IsFalling, IsLane}
use Rattle.street_yard.proofs.Keys.{has-later, has-away, has-behind}
use Rattle.street_yard.proofs.YardLemmas.{parts_apart, split-within, list-written, list-other}
use Rattle.street_lanes.specs.declared.lanes.Extent.{Extent}
use Rattle.street_lanes.specs.Prelude.{waiting_of, queued_of, cells_list, buffer_list, waiting_list, cars_on, held_on, lane_seen, IsShort, AreShort, NoneLoose, Packs}
use Rattle.street_lanes.specs.Inside.{length_at, closed_at, lanes_in, loose_in, view_of, IsLaidOut}
use Rattle.street_lanes.proofs.Touches.{loose-off}
use Rattle.street_lanes.proofs.Joins.{has-left}
use Rattle.street_lanes.proofs.Loose.{nobody-loose}

-- ---- nothing is done, or one thing after another

pub packs-none : (y : Yard) → Packs y y
packs-none y = record { count = refl; held = λ list. refl; room = refl; short = λ h. h; none_loose = λ h. h }

pub packs-then : (a b c : Yard) → Packs a b → Packs b c → Packs a c
packs-then a b c p q = record {
  count = q.count ∙ p.count;
  held = λ list. q.held list ∙ p.held list;
  room = q.room ∙ p.room;
  short = λ h. q.short (p.short h);
  none_loose = λ h. q.none_loose (p.none_loose h);
}

-- ---- one car takes another key

map-same : {A : Type 0} (f g : ℕ → A) (xs : List ℕ) → ((x : ℕ) → Has xs x → f x ≡ g x) → map f xs ≡ map g xs
map-same f g [] same = refl
map-same f g (x ∷ xs) same = (λ i. same x ([], xs, refl) i ∷ map-same f g xs (λ z h. same z (has-later x z xs h)) i)

abbrev car_in : Option YardEntry → Option Car
car_in = option_map (λ (e : YardEntry). e.car)

abbrev list_in : Option YardEntry → Option ℕ
list_in = option_and_then (λ (e : YardEntry). e.list)

abbrev IsOff : Option YardEntry → Type 0
IsOff o = IsSomeAnd o (λ (e : YardEntry). e.list ≡ None)

module _ (old new : Yard) (key next : ℕ) (whole : IsWhole old) (few : next < 4294967296) (r : Renews old new key next) where
  on : list_on old key ≡ Some r.list
  on = whole.names key r.list (r.ahead, r.behind, r.split)

  -- a key on a list has a car
  far : (k list : ℕ) → Has (list_at old list) k → k ≢ key → k ≢ next
  far k list h ne e = elim (cases_eq next key) as (λ _. ⊥) [
    | inl same ↦ ne (e ∙ same)
    | inr other ↦ (let bad : ◌≡◌ {A = Option ℕ} (Some list) None = sym (whole.names k list h) ∙ ap list_in (ap (entry_at old) e ∙ r.vacant other) in cc)
  ]

  car-same : (k list : ℕ) → Has (list_at old list) k → k ≢ key → car_of new k ≡ car_of old k
  car-same k list h ne = ap car_in (r.others k ne (far k list h ne))

  held-here : held_on new r.list ≡ held_on old r.list
  held-here =
      let apart = parts_apart old r.list key r.ahead r.behind whole r.split in
      let has : (k : ℕ) → Has (r.ahead ++ key ∷ r.behind) k → Has (list_at old r.list) k = λ k h. subst (λ l. Has l k) (sym r.split) h in
      let upper = map-same (car_of new) (car_of old) r.ahead (λ k h. car-same k r.list (has k (has-left r.ahead (key ∷ r.behind) k h)) (λ e. has-away key r.ahead (subst (Has r.ahead) e h) apart.0)) in
      let lower = map-same (car_of new) (car_of old) r.behind (λ k h. car-same k r.list (has k (has-behind r.ahead k (key ∷ r.behind) (has-later key k r.behind h))) (λ e. has-away key r.behind (subst (Has r.behind) e h) apart.1)) in
      let here : list_at new r.list ≡ r.ahead ++ next ∷ r.behind = ap (λ ls. get_or ls r.list []) r.lists ∙ list-written old.lists r.list (r.ahead ++ next ∷ r.behind) (split-within old r.list key r.ahead r.behind whole r.split) in
      ap (map (car_of new)) here ∙ map-append (car_of new) r.ahead (next ∷ r.behind)
      ∙ (λ i. upper i ++ r.car i ∷ lower i)
      ∙ sym (ap (map (car_of old)) r.split ∙ map-append (car_of old) r.ahead (key ∷ r.behind))

  held-there : (list : ℕ) → list ≢ r.list → held_on new list ≡ held_on old list
  held-there list ne =
      ap (map (car_of new)) (ap (λ ls. get_or ls list []) r.lists ∙ list-other old.lists r.list list (r.ahead ++ next ∷ r.behind) ne)
      ∙ map-same (car_of new) (car_of old) (list_at old list) (λ k h. car-same k list h (λ e. ne (let both : ◌≡◌ {A = Option ℕ} (Some list) (Some r.list) = sym (whole.names k list h) ∙ ap (list_on old) e ∙ on in cc)))

  short-then : AreShort old → AreShort new
  short-then short k car is = elim (cases_eq k next) as (λ _. IsShort k car) [
    | inl e ↦ ((short key car (sym r.car ∙ sym (ap (car_of new) e) ∙ is)).0, omega arith)
    | inr ne ↦ elim (cases_eq k key) as (λ _. IsShort k car) [
      | inl e ↦ (let bad : ◌≡◌ {A = Option Car} (Some car) None = sym is ∙ ap car_in (ap (entry_at new) e ∙ r.gone (λ f. ne (e ∙ sym f))) in cc)
      | inr away ↦ short k car (sym (ap car_in (r.others k away ne)) ∙ is)
    ]
  ]

  loose-then : NoneLoose old → NoneLoose new
  loose-then none k loose = elim (cases_eq k next) as (λ _. ⊥) [
    | inl e ↦ (let bad : ◌≡◌ {A = Option ℕ} (Some r.list) None = sym (ap (list_on new) e ∙ r.on ∙ on) ∙ loose-off new k loose in cc)
    | inr ne ↦ elim (cases_eq k key) as (λ _. ⊥) [
      | inl e ↦ subst IsOff (ap (entry_at new) e ∙ r.gone (λ f. ne (e ∙ sym f))) loose
      | inr away ↦ none k (subst IsOff (r.others k away ne) loose)
    ]
  ]

  pub renew-packs : Packs old new
  renew-packs = record {
    count = ap length r.lists ∙ length-set old.lists r.list (r.ahead ++ next ∷ r.behind);
    held = λ list. elim (cases_eq list r.list) as (λ _. held_on new list ≡ held_on old list) [
      | inl e ↦ ap (held_on new) e ∙ held-here ∙ sym (ap (held_on old) e)
      | inr ne ↦ held-there list ne
    ];
    room = r.room;
    short = short-then;
    none_loose = loose-then;
  }

-- ---- what a lane has, by what its keys hold

abbrev cell_in : Option Car → ℕ
cell_in o = unwrap_or (option_map (λ (c : Car). c.cell) o) 0

abbrev found_in : List (Option Car) → ℕ → Option Vehicle
found_in [] z = None
found_in (o ∷ os) z = cond (cell_in o == z) (option_map vehicle_of o) (found_in os z)

found-held : (y : Yard) (xs : List ℕ) (z : ℕ) → option_and_then (vehicle_with y) (key_at (cell_at y) xs z) ≡ found_in (map (car_of y) xs) z
found-held y [] z = refl
found-held y (x ∷ xs) z = elim (cases_Bool (cell_at y x == z)) as (λ _. option_and_then (vehicle_with y) (key_at (cell_at y) (x ∷ xs) z) ≡ found_in (map (car_of y) (x ∷ xs)) z) [
  | inl t ↦ rw t refl
  | inr f ↦ rw f (found-held y xs z)
]

abbrev AreFalling : ℕ → List (Option Car) → Type 0
AreFalling bound [] = Unit {0}
AreFalling bound (o ∷ os) = (cell_in o < bound) × AreFalling (cell_in o) os

falling-held : (y : Yard) (bound : ℕ) (xs : List ℕ) → IsFalling (cell_at y) bound xs → AreFalling bound (map (car_of y) xs)
falling-held y bound [] f = tt
falling-held y bound (x ∷ xs) f = (f.0, falling-held y (cell_at y x) xs f.1)

held-falling : (y : Yard) (bound : ℕ) (xs : List ℕ) → AreFalling bound (map (car_of y) xs) → IsFalling (cell_at y) bound xs
held-falling y bound [] f = tt
held-falling y bound (x ∷ xs) f = (f.0, held-falling y (cell_at y x) xs f.1)

cars-held : (f : ℕ → Option Car) (xs : List ℕ) → filter_map f xs ≡ filter_map (λ o. o) (map f xs)
cars-held f [] = refl
cars-held f (x ∷ xs) = ap (cons_option (f x)) (cars-held f xs)

-- a list that holds the same stands for the same
module _ (old new : Yard) (list : ℕ) (held : held_on new list ≡ held_on old list) where
  pub cars-same : cars_on new list ≡ cars_on old list
  cars-same = cars-held (car_of new) (list_at new list) ∙ ap (filter_map (λ o. o)) held ∙ sym (cars-held (car_of old) (list_at old list))

  seen-same : (z : ℕ) → seen_at new list z ≡ seen_at old list z
  seen-same z = found-held new (list_at new list) z ∙ ap (λ os. found_in os z) held ∙ sym (found-held old (list_at old list) z)

  cells-same : (count : ℕ) → cells_at new list count ≡ cells_at old list count
  unfolding cells_at
  cells-same count = λ i. map (λ z. seen-same z i) (range_with_len 0 count)

  lane-same : (count : ℕ) → IsLane old list count → IsLane new list count
  lane-same count lane = record {
    falls = held-falling new count (list_at new list) (subst (AreFalling count) (sym held) (falling-held old count (list_at old list) lane.falls));
    disjoint = subst AreDisjoint (sym (cells-same count)) lane.disjoint;
  }

lane-packed : (old new : Yard) (closed : List Stretch) (count n : ℕ) → Packs old new → lane_seen new closed count n ≡ lane_seen old closed count n
lane-packed old new closed count n packs =
    let cells = cells-same old new (cells_list n) (packs.held (cells_list n)) count in
    let queue = cars-same old new (buffer_list n) (packs.held (buffer_list n)) in
    let waiting = cars-same old new (waiting_list n) (packs.held (waiting_list n)) in
    λ i. record { track = record { cells = cells i; closed = closed_marks closed count }; queue = map queued_of (queue i); waiting = map waiting_of (waiting i) }

-- nothing is seen of keys
module _ (y new : Yard) (closures : List (List Stretch)) (extents : List Extent) (sound : IsLaidOut y closures extents) (packs : Packs y new) where
  pub packed-sound : IsLaidOut new closures extents
  packed-sound = record {
    one_each = sound.one_each;
    three_each = packs.count ∙ sound.three_each;
    few = sound.few;
    some = sound.some;
    falls = λ n h. lane-same y new (cells_list n) (packs.held (cells_list n)) (length_at extents n) (sound.falls n h);
    within = sound.within;
    short = packs.short sound.short;
    none_loose = packs.none_loose sound.none_loose;
  }

  pub packed-view : (odds : Odds) → view_of new closures extents odds ≡ view_of y closures extents odds
  packed-view odds =
      let lanes : lanes_in new closures extents ≡ lanes_in y closures extents = λ i. map (λ n. lane-packed y new (closed_at closures n) (length_at extents n) n packs i) (range_with_len 0 (length extents)) in
      let loose : loose_in new ≡ loose_in y = nobody-loose new (packs.none_loose sound.none_loose) ∙ sym (nobody-loose y sound.none_loose) in
      λ i. record { places = map (λ s. s.at) extents; lanes = lanes i; loose = loose i; odds = odds; room = packs.room i }
