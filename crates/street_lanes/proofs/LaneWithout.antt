-- The vehicle of a number is taken out of a lane.
use Rattle.std.proofs.Common.{◌≡◌, ◌≢◌, ℕ, zero, suc, ◌<◌, ◌≤◌, Bool, eqb, List, [], ◌∷◌, ◌++◌, length, map, get_or, set, Option, Some, None, refl, sym, ap, subst, ◌∙◌, inl, inr, arith, filter_map, filter, sum_by, option_map, option_and_then, unwrap_or}
use Rattle.std.specs.List.{cons_option}
use Rattle.std.proofs.lemmas.Bool.{cases_eq, cond-false, ne_eqb}
use Rattle.std.proofs.lemmas.List.{map-append, length-set, get_or-set_same, get_or-set_other}
use Rattle.std.proofs.lemmas.List.Elements.{filter_map-append}
use Rattle.std.proofs.lemmas.List.FromFn.{length-map-range_with_len, fill_by_all}
use Rattle.std.proofs.lemmas.List.Sums.{sum_by-cons}
use Rattle.street_base.specs.declared.car.Car.{Car}
use Rattle.street_base.specs.Prelude.{Vehicle, vehicle_of, Cells, Track, vehicle_at, AreDisjoint, weight, LaneState, in_lane, lane_without, cell_without, in_order}
use Rattle.street_rule.specs.Prelude.{Odds}
use Rattle.street_gap.specs.declared.closures.Stretch.{Stretch}
use Rattle.street_gap.specs.Prelude.{closed_marks}
use Rattle.street_yard.specs.Prelude.{Yard, list_at, car_of, without, Has, IsWhole, cell_at, vehicle_with, key_at, seen_at, cells_at, IsFalling, IsLane}
use Rattle.street_yard.proofs.Keys.{has-later, has-away, append-Away}
use Rattle.street_yard.proofs.YardLemmas.{without-is, parts_apart, mapped-same}
use Rattle.street_yard.proofs.FallingLists.{falling-wider, falling-split, key_at-split, key_at-is, key_at-drop, key_at-gone, cells-length, cells-read, seen-key, falling-agree, found-agree}
use Rattle.street_lanes.specs.declared.lanes.Extent.{Extent}
use Rattle.street_lanes.specs.Prelude.{IsLaneOf, waiting_of, queued_of, AreInOrder, GoesIf, cells_list, buffer_list, waiting_list, cars_on, SameList, Touches, IsSought, IsFound, TakesOut}
use Rattle.street_lanes.specs.Search.{IsListOfLane}
use Rattle.street_lanes.specs.Inside.{length_at, closed_at, lane_in, view_of, IsLaidOut}
use Rattle.street_lanes.proofs.Cars.{car_there}
use Rattle.street_lanes.proofs.Frames.{with-cells, with-buffer, with-waiting, frame-sound, frame-if}
use Rattle.street_lanes.proofs.LaneCalls.{still-cells, same-track, same-queue, same-waiting, three-apart}
use Rattle.street_lanes.proofs.Without.{in_queue, in_wait, cars, cars-split, numbered, counted, stays, all-stay, at-least, one-goes, cells-stay, cell-counted, cell-goes, cells-none, order-filter, filter-in_order, in_order-sum}

falling-remove : (f : ℕ → ℕ) (bound : ℕ) (us : List ℕ) (k : ℕ) (vs : List ℕ) → IsFalling f bound (us ++ k ∷ vs) → IsFalling f bound (us ++ vs)
falling-remove f bound [] k vs h = falling-wider f (f k) bound vs (let a = h.0 in omega arith) h.1
falling-remove f bound (u ∷ us) k vs h = (h.0, falling-remove f (f u) us k vs h.1)

-- cells without one of the vehicles
gone-was : (cells : Cells) (at x : ℕ) (v : Vehicle) → vehicle_at (set cells at None) x ≡ Some v → vehicle_at cells x ≡ Some v
gone-was [] at x v e = e
gone-was (c ∷ cells) zero zero v e = cc
gone-was (c ∷ cells) zero (suc x) v e = e
gone-was (c ∷ cells) (suc at) zero v e = e
gone-was (c ∷ cells) (suc at) (suc x) v e = gone-was cells at x v e

gone-disjoint : (cells : Cells) (at : ℕ) → AreDisjoint cells → AreDisjoint (set cells at None)
gone-disjoint cells at disjoint x y v w l at_x at_y = disjoint x y v w l (gone-was cells at x v at_x) (gone-was cells at y w at_y)

-- a key between others of its list is taken out
module _ (y new : Yard) (key : ℕ) (car : Car) (whole : IsWhole y) (t : TakesOut y new key car) (list : ℕ) (us vs : List ℕ) (split : list_at y list ≡ us ++ key ∷ vs) where
  same_list : t.list ≡ list
  same_list = (let both : ◌≡◌ {A = Option ℕ} (Some t.list) (Some list) = sym t.on ∙ whole.names key list (us, vs, split) in cc)

  pub take-touches : Touches (list ∷ []) y new
  take-touches = subst (λ l. Touches (l ∷ []) y new) same_list t.touches

  left_is : list_at new list ≡ us ++ vs
  left_is = subst (λ l. list_at new l ≡ without key (list_at y l)) same_list t.left ∙ without-is y list key us vs whole split

  same_cars : (k : ℕ) → Has (us ++ vs) k → car_of new k ≡ car_of y k
  same_cars k h = (let apart = parts_apart y list key us vs whole split in t.others k (λ e. has-away key (us ++ vs) (subst (Has (us ++ vs)) e h) (append-Away key us vs apart.0 apart.1)))

  pub cars-now : cars_on new list ≡ cars y us ++ cars y vs
  cars-now = ap (filter_map (car_of new)) left_is ∙ mapped-same (car_of new) (car_of y) (us ++ vs) same_cars ∙ filter_map-append (car_of y) us vs

  pub cars-were : cars_on y list ≡ cars y us ++ car ∷ cars y vs
  cars-were = cars-split y list key car t.car us vs split

  module _ (count : ℕ) (lane : IsLane y list count) where
    falls : IsFalling (cell_at y) count (us ++ key ∷ vs)
    falls = subst (IsFalling (cell_at y) count) split lane.falls

    same_cell : (k : ℕ) → Has (us ++ vs) k → cell_at y k ≡ cell_at new k
    same_cell k h = ap (λ o. unwrap_or (option_map (λ (c : Car). c.cell) o) 0) (sym (same_cars k h))

    falls-left : IsFalling (cell_at new) count (list_at new list)
    falls-left = subst (IsFalling (cell_at new) count) (sym left_is) (falling-agree (cell_at y) (cell_at new) count (us ++ vs) same_cell (falling-remove (cell_at y) count us key vs falls))

    pub was-there : vehicle_at (cells_at y list count) (cell_at y key) ≡ Some (vehicle_of car)
    was-there =
        cells-read y list count whole lane.falls (cell_at y key)
        ∙ ap (option_and_then (vehicle_with y)) (ap (λ l. key_at (cell_at y) l (cell_at y key)) split ∙ key_at-split (cell_at y) count us key vs falls)
        ∙ ap (option_map vehicle_of) t.car

    seen-new : (z : ℕ) → seen_at new list z ≡ option_and_then (vehicle_with y) (key_at (cell_at y) (us ++ vs) z)
    seen-new z =
        ap (λ l. option_and_then (vehicle_with new) (key_at (cell_at new) l z)) left_is
        ∙ found-agree (cell_at new) (cell_at y) (vehicle_with new) (vehicle_with y) (us ++ vs) z (λ k h. sym (same_cell k h)) (λ k h. ap (option_map vehicle_of) (same_cars k h))

    pub cells-left : cells_at new list count ≡ set (cells_at y list count) (cell_at y key) None
    unfolding cells_at
    cells-left = sym (fill_by_all (seen_at new list) (set (cells_at y list count) (cell_at y key) None) count None (length-set (cells_at y list count) (cell_at y key) None ∙ length-map-range_with_len (seen_at y list) 0 count) at)
      where
        at : (k : ℕ) → k < count → get_or (set (cells_at y list count) (cell_at y key) None) k None ≡ seen_at new list k
        at k h = elim (cases_eq k (cell_at y key)) as (λ _. get_or (set (cells_at y list count) (cell_at y key) None) k None ≡ seen_at new list k) [
          | inl e ↦ subst (λ j. get_or (set (cells_at y list count) (cell_at y key) None) j None ≡ seen_at new list j) (sym e)
              (get_or-set_same (cells_at y list count) (cell_at y key) None None (rw (cells-length y list count whole lane.falls) (falling-split (cell_at y) count us key vs falls).1)
              ∙ sym (seen-new (cell_at y key) ∙ ap (option_and_then (vehicle_with y)) (key_at-gone (cell_at y) count us key vs falls)))
          | inr ne ↦ get_or-set_other (cells_at y list count) (cell_at y key) k None None ne ∙ cells-read y list count whole lane.falls k
              ∙ ap (option_and_then (vehicle_with y)) (ap (λ l. key_at (cell_at y) l k) split ∙ key_at-drop (cell_at y) us key vs k (λ e. ne (sym e)))
              ∙ sym (seen-new k)
        ]

    pub lane-left : IsLane new list count
    lane-left = record { falls = falls-left; disjoint = subst AreDisjoint (sym cells-left) (gone-disjoint (cells_at y list count) (cell_at y key) lane.disjoint) }

-- ---- as the lane sees it

abbrev Once : ℕ → LaneState → Type 0
Once number s = in_lane number s ≤ 1

-- the vehicle of a number was on the lane, and is on it no more
pub record IsTaken (y new : Yard) (closures : List (List Stretch)) (extents : List Extent) (odds : Odds) (n number : ℕ) : Type 0 where
  pub still : IsLaidOut new closures extents
  pub found : (s : LaneState) → IsLaneOf (lane_in y closures extents n) s → Once number s → 1 ≡ in_lane number s
  pub goes : GoesIf n (Once number) (lane_without number) (view_of y closures extents odds) (view_of new closures extents odds)

module _ (y new : Yard) (closures : List (List Stretch)) (extents : List Extent) (odds : Odds) (n : ℕ) (sound : IsLaidOut y closures extents) (within : n < length extents) (number key : ℕ) (car : Car) (whole : IsWhole y) (t : TakesOut y new key car) (is : car.number ≡ number) (us vs : List ℕ) where
  abbrev size : ℕ
  size = length_at extents n

  abbrev shut : List Bool
  shut = closed_marks (closed_at closures n) size

  module _ (split : list_at y (cells_list n) ≡ us ++ key ∷ vs) where
    cells_touch : Touches (cells_list n ∷ []) y new
    cells_touch = take-touches y new key car whole t (cells_list n) us vs split

    c_buffer : SameList y new (buffer_list n)
    c_buffer = cells_touch.others (buffer_list n) ((λ e. (three-apart n).0 (sym e)), tt)

    c_waiting : SameList y new (waiting_list n)
    c_waiting = cells_touch.others (waiting_list n) ((λ e. (three-apart n).1 (sym e)), tt)

    there : vehicle_at (cells_at y (cells_list n) size) (cell_at y key) ≡ Some (vehicle_of car)
    there = was-there y new key car whole t (cells_list n) us vs split size (sound.falls n within)

    c_counted : (s : LaneState) → IsLaneOf (lane_in y closures extents n) s → 1 ≤ sum_by (weight number) s.track.cells
    c_counted s st = subst (λ (k : Track). 1 ≤ sum_by (weight number) k.cells) st.track (cell-counted number (cells_at y (cells_list n) size) (cell_at y key) (vehicle_of car) there is)

    cells-taken : IsTaken y new closures extents odds n number
    cells-taken = record {
      still = frame-sound y new closures extents odds n (cells_list n ∷ []) sound within (with-cells n, tt) cells_touch t.none_loose (lane-left y new key car whole t (cells_list n) us vs split size (sound.falls n within));
      found = λ s st few. (let some = c_counted s st in omega (arith, some, few));
      goes = frame-if y new closures extents odds n (cells_list n ∷ []) sound within (with-cells n, tt) cells_touch t.none_loose (Once number) (lane_without number) (λ s st few.
          let some = c_counted s st in
          let few_cells : sum_by (weight number) (cells_at y (cells_list n) size) ≤ 1 = subst (λ (k : Track). sum_by (weight number) k.cells ≤ 1) (sym st.track) (omega (arith, few)) in
          let gone = cells-left y new key car whole t (cells_list n) us vs split size (sound.falls n within) ∙ sym (cell-goes number (cells_at y (cells_list n) size) (cell_at y key) (vehicle_of car) there is few_cells) in
          record {
            track = (λ i. record { cells = gone i; closed = shut }) ∙ ap (λ (k : Track). record k { cells = map (cell_without number) k.cells }) st.track;
            queue = same-queue y new closures extents odds n sound within c_buffer ∙ st.queue ∙ sym (all-stay number in_queue s.queue (omega (arith, some, few)));
            waiting = same-waiting y new closures extents odds n sound within c_waiting ∙ st.waiting ∙ sym (ap in_order (all-stay number in_wait s.waiting (omega (arith, some, few))));
            order = subst AreInOrder (sym (same-waiting y new closures extents odds n sound within c_waiting)) st.order;
          });
    }

  module _ (split : list_at y (buffer_list n) ≡ us ++ key ∷ vs) where
    buffer_touch : Touches (buffer_list n ∷ []) y new
    buffer_touch = take-touches y new key car whole t (buffer_list n) us vs split

    b_cells : SameList y new (cells_list n)
    b_cells = buffer_touch.others (cells_list n) ((three-apart n).0, tt)

    b_waiting : SameList y new (waiting_list n)
    b_waiting = buffer_touch.others (waiting_list n) ((λ e. (three-apart n).2 (sym e)), tt)

    queue_were : (lane_in y closures extents n).queue ≡ map queued_of (cars y us) ++ queued_of car ∷ map queued_of (cars y vs)
    queue_were = ap (map queued_of) (cars-were y new key car whole t (buffer_list n) us vs split) ∙ map-append queued_of (cars y us) (car ∷ cars y vs)

    b_counted : (s : LaneState) → IsLaneOf (lane_in y closures extents n) s → 1 ≤ sum_by (counted number in_queue) s.queue
    b_counted s st = subst (λ qs. 1 ≤ sum_by (counted number in_queue) qs) (sym queue_were ∙ st.queue) (at-least number in_queue (map queued_of (cars y us)) (queued_of car) (map queued_of (cars y vs)) is)

    buffer-taken : IsTaken y new closures extents odds n number
    buffer-taken = record {
      still = frame-sound y new closures extents odds n (buffer_list n ∷ []) sound within (with-buffer n, tt) buffer_touch t.none_loose (still-cells y new closures extents odds n sound within b_cells);
      found = λ s st few. (let some = b_counted s st in omega (arith, some, few));
      goes = frame-if y new closures extents odds n (buffer_list n ∷ []) sound within (with-buffer n, tt) buffer_touch t.none_loose (Once number) (lane_without number) (λ s st few.
          let some = b_counted s st in
          let few_queue : sum_by (counted number in_queue) (map queued_of (cars y us) ++ queued_of car ∷ map queued_of (cars y vs)) ≤ 1 = subst (λ qs. sum_by (counted number in_queue) qs ≤ 1) (sym st.queue ∙ queue_were) (omega (arith, few)) in
          record {
            track = same-track y new closures extents odds n sound within b_cells ∙ st.track ∙ sym (ap (λ cs. record s.track { cells = cs }) (cells-stay number s.track.cells (omega (arith, some, few))));
            queue =
                ap (map queued_of) (cars-now y new key car whole t (buffer_list n) us vs split) ∙ map-append queued_of (cars y us) (cars y vs)
                ∙ sym (one-goes number in_queue (map queued_of (cars y us)) (queued_of car) (map queued_of (cars y vs)) is few_queue)
                ∙ ap (filter (stays number in_queue)) (sym queue_were ∙ st.queue);
            waiting = same-waiting y new closures extents odds n sound within b_waiting ∙ st.waiting ∙ sym (ap in_order (all-stay number in_wait s.waiting (omega (arith, some, few))));
            order = subst AreInOrder (sym (same-waiting y new closures extents odds n sound within b_waiting)) st.order;
          });
    }

  module _ (split : list_at y (waiting_list n) ≡ us ++ key ∷ vs) where
    waiting_touch : Touches (waiting_list n ∷ []) y new
    waiting_touch = take-touches y new key car whole t (waiting_list n) us vs split

    w_cells : SameList y new (cells_list n)
    w_cells = waiting_touch.others (cells_list n) ((three-apart n).1, tt)

    w_buffer : SameList y new (buffer_list n)
    w_buffer = waiting_touch.others (buffer_list n) ((three-apart n).2, tt)

    waiting_were : (lane_in y closures extents n).waiting ≡ map waiting_of (cars y us) ++ waiting_of car ∷ map waiting_of (cars y vs)
    waiting_were = ap (map waiting_of) (cars-were y new key car whole t (waiting_list n) us vs split) ∙ map-append waiting_of (cars y us) (car ∷ cars y vs)

    same_sum : (s : LaneState) → IsLaneOf (lane_in y closures extents n) s → sum_by (counted number in_wait) (map waiting_of (cars y us) ++ waiting_of car ∷ map waiting_of (cars y vs)) ≡ sum_by (counted number in_wait) s.waiting
    same_sum s st = ap (sum_by (counted number in_wait)) (sym waiting_were ∙ st.waiting) ∙ in_order-sum (counted number in_wait) s.waiting

    w_counted : (s : LaneState) → IsLaneOf (lane_in y closures extents n) s → 1 ≤ sum_by (counted number in_wait) s.waiting
    w_counted s st = subst (λ k. 1 ≤ k) (same_sum s st) (at-least number in_wait (map waiting_of (cars y us)) (waiting_of car) (map waiting_of (cars y vs)) is)

    waiting-taken : IsTaken y new closures extents odds n number
    waiting-taken = record {
      still = frame-sound y new closures extents odds n (waiting_list n ∷ []) sound within (with-waiting n, tt) waiting_touch t.none_loose (still-cells y new closures extents odds n sound within w_cells);
      found = λ s st few. (let some = w_counted s st in omega (arith, some, few));
      goes = frame-if y new closures extents odds n (waiting_list n ∷ []) sound within (with-waiting n, tt) waiting_touch t.none_loose (Once number) (lane_without number) (λ s st few.
          let some = w_counted s st in
          let few_wait : sum_by (counted number in_wait) (map waiting_of (cars y us) ++ waiting_of car ∷ map waiting_of (cars y vs)) ≤ 1 = subst (λ k. k ≤ 1) (sym (same_sum s st)) (omega (arith, few)) in
          let left : (lane_in new closures extents n).waiting ≡ filter (stays number in_wait) (lane_in y closures extents n).waiting =
          ap (map waiting_of) (cars-now y new key car whole t (waiting_list n) us vs split) ∙ map-append waiting_of (cars y us) (cars y vs)
          ∙ sym (one-goes number in_wait (map waiting_of (cars y us)) (waiting_of car) (map waiting_of (cars y vs)) is few_wait)
          ∙ ap (filter (stays number in_wait)) (sym waiting_were) in
          record {
            track = same-track y new closures extents odds n sound within w_cells ∙ st.track ∙ sym (ap (λ cs. record s.track { cells = cs }) (cells-stay number s.track.cells (omega (arith, some, few))));
            queue = same-queue y new closures extents odds n sound within w_buffer ∙ st.queue ∙ sym (all-stay number in_queue s.queue (omega (arith, some, few)));
            waiting = left ∙ ap (filter (stays number in_wait)) st.waiting ∙ filter-in_order (stays number in_wait) s.waiting (subst AreInOrder st.waiting st.order);
            order = subst AreInOrder (sym left) (order-filter (stays number in_wait) (lane_in y closures extents n).waiting st.order);
          });
    }

-- ---- the car of a key that was found

module _ (y new : Yard) (closures : List (List Stretch)) (extents : List Extent) (odds : Odds) (n : ℕ) (sound : IsLaidOut y closures extents) (within : n < length extents) (number key : ℕ) (car : Car) (whole : IsWhole y) (t : TakesOut y new key car) where
  by-list : car.number ≡ number → (list : ℕ) → IsListOfLane n list → Has (list_at y list) key → IsTaken y new closures extents odds n number
  by-list is list (inl e) h =
      let at = subst (λ l. Has (list_at y l) key) e h in
      cells-taken y new closures extents odds n sound within number key car whole t is at.0 at.1 at.2
  by-list is list (inr (inl e)) h =
      let at = subst (λ l. Has (list_at y l) key) e h in
      buffer-taken y new closures extents odds n sound within number key car whole t is at.0 at.1 at.2
  by-list is list (inr (inr e)) h =
      let at = subst (λ l. Has (list_at y l) key) e h in
      waiting-taken y new closures extents odds n sound within number key car whole t is at.0 at.1 at.2

  pub is-taken : IsFound y n number (Some key) → IsTaken y new closures extents odds n number
  is-taken found = by-list (numbered number (car_of y key) car t.car found.2.1) found.0 found.1 found.2.0

-- ---- where no car was found

module _ (y : Yard) (closures : List (List Stretch)) (extents : List Extent) (n : ℕ) (sound : IsLaidOut y closures extents) (within : n < length extents) (number : ℕ) (whole : IsWhole y) (none : IsFound y n number None) where
  list-none : {A : Type 0} (get : Car → A) (vehicle : A → Vehicle) → ((c : Car) → (vehicle (get c)).number ≡ c.number) → (ks : List ℕ) → ((k : ℕ) (c : Car) → Has ks k → car_of y k ≡ Some c → c.number ≢ number) → sum_by (counted number vehicle) (map get (filter_map (car_of y) ks)) ≡ 0
  list-none {A} get vehicle same [] never = refl
  list-none {A} get vehicle same (k ∷ ks) never = by (car_of y k) refl (list-none get vehicle same ks (λ j c h is. never j c (has-later k j ks h) is))
    where
      by : (o : Option Car) → car_of y k ≡ o → sum_by (counted number vehicle) (map get (filter_map (car_of y) ks)) ≡ 0 → sum_by (counted number vehicle) (map get (filter_map (car_of y) (k ∷ ks))) ≡ 0
      by None e rest = ap (λ o. sum_by (counted number vehicle) (map get (cons_option o (filter_map (car_of y) ks)))) e ∙ rest
      by (Some c) e rest =
          let parts = sum_by-cons (counted number vehicle) (get c) (map get (filter_map (car_of y) ks)) in
          let zero_here : counted number vehicle (get c) ≡ 0 = cond-false (eqb (vehicle (get c)).number number) 1 0 (ne_eqb (vehicle (get c)).number number (λ f. never k c ([], ks, refl) e (sym (same c) ∙ f))) in
          ap (λ o. sum_by (counted number vehicle) (map get (cons_option o (filter_map (car_of y) ks)))) e ∙ omega (arith, parts, zero_here, rest)

  no-cell : (x : ℕ) (v : Vehicle) → vehicle_at (cells_at y (cells_list n) (length_at extents n)) x ≡ Some v → v.number ≢ number
  no-cell x v at = by (key_at (cell_at y) (list_at y (cells_list n)) x) refl
    where
      by : (o : Option ℕ) → key_at (cell_at y) (list_at y (cells_list n)) x ≡ o → v.number ≢ number
      by None e = absurd (let bad : ◌≡◌ {A = Option Vehicle} (Some v) None = sym at ∙ cells-read y (cells_list n) (length_at extents n) whole (sound.falls n within).falls x ∙ ap (option_and_then (vehicle_with y)) e in cc)
      by (Some k) e =
          let s = seen-key y (cells_list n) (length_at extents n) whole (sound.falls n within).falls x k e in
          let on = (key_at-is (cell_at y) (list_at y (cells_list n)) x k e).1 in
          let c = car_there y (cells_list n) k whole on in
          let both : ◌≡◌ {A = Option Vehicle} (Some (vehicle_of c.0)) (Some v) = sym (ap (option_map vehicle_of) c.1) ∙ s.1 ∙ sym s.2 ∙ at in
          let same : vehicle_of c.0 ≡ v = cc in
          λ f. none.0 k c.0 on c.1 (ap (λ (w : Vehicle). w.number) same ∙ f)

  module _ (s : LaneState) (st : IsLaneOf (lane_in y closures extents n) s) where
    none_cells : sum_by (weight number) s.track.cells ≡ 0
    none_cells = sym (ap (λ (k : Track). sum_by (weight number) k.cells) st.track) ∙ cells-none number (cells_at y (cells_list n) (length_at extents n)) no-cell

    none_queue : sum_by (counted number in_queue) s.queue ≡ 0
    none_queue = sym (ap (sum_by (counted number in_queue)) st.queue) ∙ list-none queued_of in_queue (λ c. refl) (list_at y (buffer_list n)) none.1

    none_waiting : sum_by (counted number in_wait) s.waiting ≡ 0
    none_waiting = sym (ap (sum_by (counted number in_wait)) st.waiting ∙ in_order-sum (counted number in_wait) s.waiting) ∙ list-none waiting_of in_wait (λ c. refl) (list_at y (waiting_list n)) none.2

    pub none-there : 0 ≡ in_lane number s
    none-there = (let a = none_cells in let b = none_queue in let c = none_waiting in omega (arith, a, b, c))

    pub none-goes : lane_without number s ≡ s
    none-goes =
        let a = cells-stay number s.track.cells none_cells in
        let b = all-stay number in_queue s.queue none_queue in
        let c = all-stay number in_wait s.waiting none_waiting in
        λ i. record { track = record { cells = a i; closed = s.track.closed }; queue = b i; waiting = c i }

-- a search that found none in two lists goes on in the third
pub found-last : (y : Yard) (n number list : ℕ) (o : Option ℕ) → list ≡ waiting_list n → IsSought y (cells_list n) number None → IsSought y (buffer_list n) number None → IsSought y list number o → IsFound y n number o
found-last y n number list None e a b h = (a, b, subst (λ l. IsSought y l number None) e h)
found-last y n number list (Some k) e a b h = (waiting_list n, inr (inr refl), subst (λ l. IsSought y l number (Some k)) e h)
