-- What the calls on one lane do to the lanes.
use Rattle.std.proofs.Common.{◌≡◌, ◌≢◌, ℕ, ◌<◌, ◌≤◌, Bool, true, false, List, [], ◌∷◌, length, map, get_or, set, Option, Some, None, IfSome, refl, sym, ap, subst, ◌∙◌, arith, slice_get, drop, filter_map, option_map}
use Rattle.std.proofs.lemmas.List.{get_or_read}
use Rattle.street_base.specs.declared.car.Car.{Car}
use Rattle.street_base.specs.Prelude.{Vehicle, vehicle_of, with_speed, Track, is_covered, is_free, LaneState, in_lane, with_entry, departed_lane, with_waiting, put_in_order, in_order}
use Rattle.street_rule.specs.Prelude.{Odds}
use Rattle.street_gap.specs.declared.closures.Stretch.{Stretch}
use Rattle.street_gap.specs.Prelude.{IsWithin, closed_marks}
use Rattle.street_yard.specs.Prelude.{Yard, list_at, car_of, cells_at, IsLane}
use Rattle.street_yard.proofs.FallingLists.{IsLane-agree, cells-agree}
use Rattle.street_lanes.specs.declared.lanes.Extent.{Extent}
use Rattle.street_lanes.specs.Prelude.{LaneView, IsLaneOf, waiting_of, queued_of, AreInOrder, without_front, Lanes, GoesIf, GoesAt, cells_list, buffer_list, waiting_list, cars_on, HasShortPlan, AreShort, SameList, Joins, Enters, LetsGo, Departs}
use Rattle.street_lanes.specs.declared.lanes.Lanes.TheInside.{Inside}
use Rattle.street_lanes.specs.Inside.{length_at, closed_at, lane_in, view_of, seen, AreLaidOut, IsLaidOut}
use Rattle.street_lanes.proofs.Access.{in-extents, in-closures}
use Rattle.street_lanes.proofs.Cars.{cars-kept}
use Rattle.street_base.proofs.CoverLemmas.{free-uncovered}
use Rattle.street_lanes.proofs.WaitingOrder.{IsNew, put-ordered, in_order-push, in_order-new, new-from_sum}
use Rattle.street_lanes.proofs.DepartedLane.{departed-nobody, departed-shut, departed-early, split, departed-goes}
use Rattle.street_lanes.proofs.Frames.{with-cells, with-buffer, with-waiting, frame-sound, frame-if, frame-at}

-- ---- lists through a map

map-drop : {A B : Type 0} (f : A → B) (xs : List A) → map f (drop 1 xs) ≡ drop 1 (map f xs)
map-drop f [] = refl
map-drop f (x ∷ xs) = refl

pub get-map : {A B : Type 0} (f : A → B) (xs : List A) → option_map f (slice_get xs 0) ≡ slice_get (map f xs) 0
get-map f [] = refl
get-map f (x ∷ xs) = refl

-- the first car of a list has a short plan
pub first-short : (y : Yard) (ks : List ℕ) → AreShort y → IfSome (slice_get (filter_map (car_of y) ks) 0) HasShortPlan
first-short y [] short = tt
first-short y (k ∷ ks) short = by (car_of y k) refl (first-short y ks short)
  where
    by : (o : Option Car) → car_of y k ≡ o → IfSome (slice_get (filter_map (car_of y) ks) 0) HasShortPlan → IfSome (slice_get (filter_map (car_of y) (k ∷ ks)) 0) HasShortPlan
    by None e rest = rw e rest
    by (Some c) e rest = rw e (short k c e).0

-- ---- the lists of a lane

pub three-apart : (n : ℕ) → (cells_list n ≢ buffer_list n) × (cells_list n ≢ waiting_list n) × (buffer_list n ≢ waiting_list n)
three-apart n = (λ e. omega arith, λ e. omega arith, λ e. omega arith)

-- ---- who waits first

module _ (y : Yard) (closures : List (List Stretch)) (extents : List Extent) (n : ℕ) where
  pub nobody-departs : (clock : ℕ) → cars_on y (waiting_list n) ≡ [] → (s : LaneState) → IsLaneOf (lane_in y closures extents n) s → departed_lane clock s ≡ s
  nobody-departs clock none s st = departed-nobody clock s (sym st.waiting ∙ ap (map waiting_of) none)

  pub shut-stays : (clock : ℕ) → is_free (lane_in y closures extents n).track 0 ≡ false → (s : LaneState) → IsLaneOf (lane_in y closures extents n) s → departed_lane clock s ≡ s
  shut-stays clock shut s st = departed-shut clock s (ap (λ (t : Track). is_free t 0) (sym st.track) ∙ shut)

  module _ (car : Car) (first : slice_get (cars_on y (waiting_list n)) 0 ≡ Some car) where
    pub ahead : (lane_in y closures extents n).waiting ≡ waiting_of car ∷ drop 1 (lane_in y closures extents n).waiting
    ahead = by (cars_on y (waiting_list n)) first
      where
        by : (cs : List Car) → slice_get cs 0 ≡ Some car → map waiting_of cs ≡ waiting_of car ∷ drop 1 (map waiting_of cs)
        by [] e = cc
        by (c ∷ cs) e = (let same : c ≡ car = cc in ap (λ d. waiting_of d ∷ map waiting_of cs) same)

    pub early-stays : (clock : ℕ) → clock < car.step → (s : LaneState) → IsLaneOf (lane_in y closures extents n) s → departed_lane clock s ≡ s
    early-stays clock early s st = departed-early clock s (waiting_of car) (drop 1 (lane_in y closures extents n).waiting) (sym st.waiting ∙ ahead) (subst AreInOrder ahead st.order) early

-- what is_open answers is whether cell 0 of the lane is free
pub open-is : (y : Yard) (closures : List (List Stretch)) (extents : List Extent) (n : ℕ) → IsLaidOut y closures extents → n < length extents → (list : ℕ) (closed : List Stretch) (answer : Bool) → list ≡ cells_list n → closed ≡ closed_at closures n
    → ((count : ℕ) → 0 < count → IsLane y list count → IsWithin closed count → answer ≡ is_free (record { cells = cells_at y list count; closed = closed_marks closed count }) 0)
    → answer ≡ is_free (lane_in y closures extents n).track 0
open-is y closures extents n sound within list closed answer at is answers =
    subst (λ c. answer ≡ is_free (record { cells = cells_at y (cells_list n) (length_at extents n); closed = closed_marks c (length_at extents n) }) 0) is
    (subst (λ l. answer ≡ is_free (record { cells = cells_at y l (length_at extents n); closed = closed_marks closed (length_at extents n) }) 0) at
    (answers (length_at extents n) (sound.some n within) (subst (λ l. IsLane y l (length_at extents n)) (sym at) (sound.falls n within)) (subst (λ c. IsWithin c (length_at extents n)) (sym is) (sound.within n within))))

-- the same of the fields of lanes that a caller sees
pub open-answer : (x : Inside) (v : Lanes) → seen x ≡ v → (n : ℕ) → n < length v.lanes → AreLaidOut x → (list : ℕ) (closed : List Stretch) (answer : Bool) → list ≡ cells_list n → closed ≡ get_or x.closures.items n closed
    → ((count : ℕ) → 0 < count → IsLane x.yard list count → IsWithin closed count → answer ≡ is_free (record { cells = cells_at x.yard list count; closed = closed_marks closed count }) 0)
    → answer ≡ is_free (lane_in x.yard x.closures.items x.extents.items n).track 0
open-answer x v is n h sound list closed answer at read answers =
    open-is x.yard x.closures.items x.extents.items n sound (in-extents x v is n h) list closed answer at (get_or_read x.closures.items n closed (in-closures x v is n h sound) read []) answers

module _ (y new : Yard) (closures : List (List Stretch)) (extents : List Extent) (odds : Odds) (n : ℕ) (sound : IsLaidOut y closures extents) (within : n < length extents) where
  abbrev count : ℕ
  count = length_at extents n

  abbrev closed : List Stretch
  closed = closed_at closures n

  abbrev before : LaneView
  before = lane_in y closures extents n

  abbrev after : LaneView
  after = lane_in new closures extents n

  -- cells that are as they were
  pub still-cells : SameList y new (cells_list n) → IsLane new (cells_list n) count
  still-cells s = IsLane-agree y new (cells_list n) s.keys s.cars count (sound.falls n within)

  pub same-track : SameList y new (cells_list n) → after.track ≡ before.track
  same-track s = (let e = cells-agree y new (cells_list n) s.keys s.cars count in λ i. record { cells = e i; closed = closed_marks closed count })

  pub same-queue : SameList y new (buffer_list n) → after.queue ≡ before.queue
  same-queue s = ap (map queued_of) (cars-kept y new (buffer_list n) s)

  pub same-waiting : SameList y new (waiting_list n) → after.waiting ≡ before.waiting
  same-waiting s = ap (map waiting_of) (cars-kept y new (waiting_list n) s)

  -- ---- the front of the buffer goes

  module _ (gone : Option Car) (goes : LetsGo (buffer_list n) y new gone) where
    go_cells : SameList y new (cells_list n)
    go_cells = goes.touches.others (cells_list n) ((three-apart n).0, tt)

    go_waiting : SameList y new (waiting_list n)
    go_waiting = goes.touches.others (waiting_list n) ((λ e. (three-apart n).2 (sym e)), tt)

    pub let_go-sound : IsLaidOut new closures extents
    let_go-sound = frame-sound y new closures extents odds n (buffer_list n ∷ []) sound within (with-buffer n, tt) goes.touches goes.none_loose (still-cells go_cells)

    pub let_go-goes : GoesAt n without_front (view_of y closures extents odds) (view_of new closures extents odds)
    let_go-goes = frame-at y new closures extents odds n (buffer_list n ∷ []) sound within (with-buffer n, tt) goes.touches goes.none_loose without_front (λ s st. record {
      track = same-track go_cells ∙ st.track;
      queue = ap (map queued_of) goes.rest ∙ map-drop queued_of (cars_on y (buffer_list n)) ∙ ap (drop 1) st.queue;
      waiting = same-waiting go_waiting ∙ st.waiting;
      order = subst AreInOrder (sym (same-waiting go_waiting)) st.order;
    })

    pub let_go-front : (s : LaneState) → IsLaneOf before s → option_map queued_of gone ≡ slice_get s.queue 0
    let_go-front s st = ap (option_map queued_of) goes.car ∙ get-map queued_of (cars_on y (buffer_list n)) ∙ ap (λ q. slice_get q 0) st.queue

    pub let_go-short : IfSome gone HasShortPlan
    let_go-short = subst (λ (o : Option Car). IfSome o HasShortPlan) (sym goes.car) (first-short y (list_at y (buffer_list n)) sound.short)

  -- ---- one more waits

  module _ (car : Car) (joins : Joins (waiting_list n) car y new) where
    wait_cells : SameList y new (cells_list n)
    wait_cells = joins.touches.others (cells_list n) ((three-apart n).1, tt)

    wait_buffer : SameList y new (buffer_list n)
    wait_buffer = joins.touches.others (buffer_list n) ((three-apart n).2, tt)

    pub admit-sound : IsLaidOut new closures extents
    admit-sound = frame-sound y new closures extents odds n (waiting_list n ∷ []) sound within (with-waiting n, tt) joins.touches joins.none_loose (still-cells wait_cells)

    pub admit-goes : GoesIf n (λ s. in_lane car.number s ≡ 0) (with_waiting (waiting_of car)) (view_of y closures extents odds) (view_of new closures extents odds)
    admit-goes = frame-if y new closures extents odds n (waiting_list n ∷ []) sound within (with-waiting n, tt) joins.touches joins.none_loose (λ s. in_lane car.number s ≡ 0) (with_waiting (waiting_of car)) (λ s st nowhere.
        let is_new = new-from_sum car.number s.waiting (omega (arith, nowhere)) in
        let put : after.waiting ≡ put_in_order (waiting_of car) before.waiting = joins.order st.order in
        let fresh : IsNew car.number before.waiting = subst (IsNew car.number) (sym st.waiting) (in_order-new car.number s.waiting is_new) in
        record {
          track = same-track wait_cells ∙ st.track;
          queue = same-queue wait_buffer ∙ st.queue;
          waiting = put ∙ ap (put_in_order (waiting_of car)) st.waiting ∙ sym (in_order-push (waiting_of car) s.waiting is_new);
          order = subst AreInOrder (sym put) (put-ordered (waiting_of car) before.waiting fresh st.order);
        })

  -- ---- a vehicle comes into cell 0, which is free

  come-cells : (v : Vehicle) (new_cells : List (Option Vehicle)) → new_cells ≡ set before.track.cells 0 (Some v) → (t : Track) → before.track ≡ t → ◌≡◌ {A = Track} (record { cells = new_cells; closed = closed_marks closed count }) (with_entry (Some v) t)
  come-cells v new_cells e t is = (λ i. record { cells = e i; closed = closed_marks closed count }) ∙ ap (with_entry (Some v)) is

  module _ (free : is_free before.track 0 ≡ true) where
    empty : is_covered (cells_at y (cells_list n) count) 0 ≡ false
    empty = free-uncovered before.track 0 free

    module _ (car : Car) (enters : Enters (cells_list n) car y new) where
      enter_buffer : SameList y new (buffer_list n)
      enter_buffer = enters.touches.others (buffer_list n) ((λ e. (three-apart n).0 (sym e)), tt)

      enter_waiting : SameList y new (waiting_list n)
      enter_waiting = enters.touches.others (waiting_list n) ((λ e. (three-apart n).1 (sym e)), tt)

      pub come_in-sound : IsLaidOut new closures extents
      come_in-sound = frame-sound y new closures extents odds n (cells_list n ∷ []) sound within (with-cells n, tt) enters.touches enters.none_loose (enters.cells count (sound.some n within) (sound.falls n within) empty).0

      pub come_in-goes : GoesIf n (λ s. is_free s.track 0 ≡ true) (λ s. record s { track = with_entry (Some (vehicle_of car)) s.track }) (view_of y closures extents odds) (view_of new closures extents odds)
      come_in-goes = frame-if y new closures extents odds n (cells_list n ∷ []) sound within (with-cells n, tt) enters.touches enters.none_loose (λ s. is_free s.track 0 ≡ true) (λ s. record s { track = with_entry (Some (vehicle_of car)) s.track }) (λ s st is_free_s. record {
        track = come-cells (vehicle_of car) (cells_at new (cells_list n) count) (enters.cells count (sound.some n within) (sound.falls n within) empty).1 s.track st.track;
        queue = same-queue enter_buffer ∙ st.queue;
        waiting = same-waiting enter_waiting ∙ st.waiting;
        order = subst AreInOrder (sym (same-waiting enter_waiting)) st.order;
      })

    -- the first who waits departs
    module _ (car : Car) (clock : ℕ) (first : slice_get (cars_on y (waiting_list n)) 0 ≡ Some car) (due : car.step ≤ clock) (departs : Departs (waiting_list n) (cells_list n) car y new) where
      depart_buffer : SameList y new (buffer_list n)
      depart_buffer = departs.touches.others (buffer_list n) ((three-apart n).2, ((λ e. (three-apart n).0 (sym e)), tt))

      pub depart-sound : IsLaidOut new closures extents
      depart-sound = frame-sound y new closures extents odds n (waiting_list n ∷ cells_list n ∷ []) sound within (with-waiting n, (with-cells n, tt)) departs.touches departs.none_loose (departs.cells count (sound.some n within) (sound.falls n within) empty).0

      pub depart-goes : GoesAt n (departed_lane clock) (view_of y closures extents odds) (view_of new closures extents odds)
      depart-goes = frame-at y new closures extents odds n (waiting_list n ∷ cells_list n ∷ []) sound within (with-waiting n, (with-cells n, tt)) departs.touches departs.none_loose (departed_lane clock) (λ s st.
          let w = waiting_of car in
          let rest = drop 1 before.waiting in
          let is_first : in_order s.waiting ≡ w ∷ rest = sym st.waiting ∙ ahead y closures extents n car first in
          let order : AreInOrder (w ∷ rest) = subst AreInOrder (ahead y closures extents n car first) st.order in
          let free_s : is_free s.track 0 ≡ true = ap (λ (t : Track). is_free t 0) (sym st.track) ∙ free in
          let gone : after.waiting ≡ rest = ap (map waiting_of) departs.rest ∙ map-drop waiting_of (cars_on y (waiting_list n)) in
          subst (IsLaneOf after) (sym (departed-goes clock s w rest is_first order free_s due)) (record {
            track = come-cells (with_speed (vehicle_of car) 0) (cells_at new (cells_list n) count) (departs.cells count (sound.some n within) (sound.falls n within) empty).1 s.track st.track;
            queue = same-queue depart_buffer ∙ st.queue;
            waiting = gone ∙ (split clock s w rest is_first order).3;
            order = subst AreInOrder (sym gone) order.1;
          }))
