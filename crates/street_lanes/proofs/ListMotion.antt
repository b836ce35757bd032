-- The motion of a lane: what its lists stand for afterwards.
use Rattle.std.proofs.Common.{◌≡◌, ◌≢◌, ℕ, ◌+◌, ◌≤◌, Bool, List, [], ◌∷◌, ◌++◌, length, map, Option, Some, None, IsSomeAnd, refl, add-zero, sym, ap, subst, ◌∙◌, inl, inr, arith, option_map, option_and_then, option_to_list}
use Rattle.std.specs.Option.{option_map_or}
use Rattle.std.proofs.lemmas.List.{length-map, map-append, append-nil}
use Rattle.std.proofs.lemmas.Bool.{cases_Bool, cases_eq, cond-true, cond-false}
use Rattle.street_base.specs.declared.car.Car.{Car}
use Rattle.street_base.specs.declared.net.NodeSpec.{NodeSpec}
use Rattle.street_base.specs.declared.net.NetSpec.{NetSpec}
use Rattle.street_base.specs.Prelude.{Cells, Track, link_at, end_node, SignalPlan, Traffic, Queued, lane_at, is_exit_open, drive_on, leaver_of, joining, most_plan, last_clock, Drive, motion, Vehicle, vehicle_of, is_on_last}
use Rattle.street_base.specs.declared.names.Place.{Place}
use Rattle.street_base.proofs.OptionLemmas.{option_map-some}
use Rattle.street_gap.specs.declared.closures.Stretch.{Stretch}
use Rattle.street_gap.specs.Prelude.{closed_marks}
use Rattle.street_yard.specs.Prelude.{YardEntry, Yard, list_at, entry_at, car_of, first_or, IsLoose, IsWhole, cell_at, cells_at, vehicle_with, IsLane}
use Rattle.street_yard.proofs.YardLemmas.{head_is, no_head, cell_is}
use Rattle.street_rule.specs.Prelude.{Road, lane_of, length_of, track_of, IsRoadLane, odds_of, Odds, watched, drive_with, IsExit, HasMoved, MovesList, stopped}
use Rattle.street_yard.proofs.FallingLists.{IsLane-agree, cells-agree, cells-length}
use Rattle.street_rule.specs.declared.watch.Watch.{Watch}
use Rattle.street_rule.specs.declared.motion.Leaver.{Leaver}
use Rattle.street_rule.proofs.Others.{other-same, other-cars}
use Rattle.street_lanes.specs.Prelude.{queued_of, IsDeserted, IsLaneOf, cells_list, buffer_list, waiting_list, cars_on, lane_seen, AreShort, NoneLoose, NoneLooseBut, SameList, Touches, IsStepOf, is_open_to, cells_on, IsFarFrom, IsToldExit, arrived_car, behind_all, Settles, MovesLane}
use Rattle.street_lanes.specs.declared.motion.ArrivedCar.{ArrivedCar}
use Rattle.street_lanes.proofs.Cars.{cars-kept, cars-length, car_there}
use Rattle.street_lanes.proofs.Touches.{SameList-trans, touch-trans, touch-wider}
use Rattle.street_lanes.proofs.Parts.{lane-parts, touch-same}
use Rattle.street_lanes.proofs.Loose.{loose-moved}
use Rattle.street_lanes.proofs.Nobody.{motion-deserted, leaver-deserted, watched-deserted}
use Rattle.street_lanes.proofs.Far.{IsFar, moved-far, HasMoved-alike}
use Rattle.street_lanes.proofs.Front.{nobody-listed, front-here, front-is}
use Rattle.street_lanes.proofs.Exits.{exit-is, drive-is}

-- a plan stays as short as it was where only speeds and cells have changed
short-moves : (old new : Yard) (n : ℕ) (away : Option ℕ) → MovesList old new n away → AreShort old → AreShort new
short-moves old new n away moves short k c is =
    let same = option_map-some stopped (car_of old k) (stopped c) (sym (moves.cars k) ∙ ap (option_map stopped) is) in
    (subst (λ (links : List ℕ). length links ≤ most_plan) (ap (λ (car : Car). car.plan.value) same.2) (short k same.0 same.1).0, (short k same.0 same.1).1)

-- ---- the exit, asked for the front alone

module _ (net : NetSpec) (plan : Option SignalPlan) (clock : ℕ) (p : Place) (m : Traffic) (now : IsStepOf net plan clock p m) (y : Yard) (closed : List Stretch) (n key : ℕ) (rest : List ℕ) (car : Car) where
  pub exit-holds : IsWhole y → IsLane y (cells_list n) (cells_on net p) → list_at y (cells_list n) ≡ key ∷ rest → car_of y key ≡ Some car → IsLaneOf (lane_seen y closed (cells_on net p) n) (lane_at m p)
      → (exit : Bool) → exit ≡ is_open_to net plan clock p (length (list_at y (buffer_list n))) (vehicle_of car)
      → IsExit (is_exit_open m p) exit (lane_seen y closed (cells_on net p) n).track
  exit-holds whole lane split is stood exit asked x v there none =
      let front = front-is y (cells_list n) (cells_on net p) key rest whole lane split (closed_marks closed (cells_on net p)) x v there none in
      let both : ◌≡◌ {A = Option Vehicle} (Some (vehicle_of car)) (Some v) = sym (ap (option_map vehicle_of) is) ∙ front in
      let same : vehicle_of car ≡ v = cc in
      let many : length (lane_at m p).queue ≡ length (list_at y (buffer_list n)) = sym (ap length stood.queue) ∙ length-map (cars_on y (buffer_list n)) queued_of ∙ cars-length y (buffer_list n) whole in
      exit-is net plan clock p m now v
      ∙ ap (λ k. is_open_to net plan clock p k v) many
      ∙ ap (is_open_to net plan clock p (length (list_at y (buffer_list n)))) (sym same)
      ∙ sym asked

  -- a front that is far from the end is the only one with nothing ahead
  pub far-holds : (yard_whole : IsWhole y) → IsLane y (cells_list n) (cells_on net p) → list_at y (cells_list n) ≡ key ∷ rest → car_of y key ≡ Some car → IsFarFrom net p car.cell → IsFar (link_at net p.link).limit (lane_seen y closed (cells_on net p) n).track
  far-holds whole lane split is far = record {
    slow = far.0;
    far = λ x v there none. (
        let at : cell_at y key ≡ x = front-here y (cells_list n) (cells_on net p) key rest whole lane split (closed_marks closed (cells_on net p)) x v there none in
        let here : cell_at y key ≡ car.cell = cell_is y key car is in
        let long = cells-length y (cells_list n) (cells_on net p) whole lane.falls in
        let h = far.1 in omega arith);
  }

-- ---- the whole motion

-- what a motion pass over the lane of a road with one lane says
abbrev pub MovedOn : Road → Yard → Bool → Odds → ℕ → Yard → Option Leaver → List Watch → List Watch → Type 0
MovedOn road old exit odds step new left before after =
    (is_open_to : Vehicle → Bool) → IsExit is_open_to exit (track_of old (length_of road) (lane_of road 0))
    → HasMoved (drive_with (link_at road.network road.link).limit is_open_to odds step) (track_of old (length_of road) (lane_of road 0)) (lane_of road 0).list (length_of road) new left before after

-- what motion has done to a lane of the machine: the cells, who joins the buffer, who arrives, and what detectors note
pub record Turns (p : Place) (y : Yard) (count n : ℕ) (extra : List Car) (told : Option ArrivedCar) (before after : List Watch) (m : Traffic) : Type 0 where
  pub cells : cells_at y (cells_list n) count ≡ motion (drive_on m p) (lane_at m p).track.cells (lane_at m p).track.closed
  pub joins : map queued_of extra ≡ joining m p (leaver_of m p)
  pub arrives : told ≡ arrived_car (leaver_of m p)
  pub notes : after ≡ map (watched (drive_on m p) (lane_at m p).track) before

-- lists of one lane lie apart from those of its buffer and of who waits
waiting-away : (n : ℕ) → (waiting_list n ≢ cells_list n) × (waiting_list n ≢ buffer_list n)
waiting-away n = (λ e. omega arith, λ e. omega arith)

buffer-away : (n : ℕ) → buffer_list n ≢ cells_list n
buffer-away n e = omega arith

module _ (net : NetSpec) (signal : Option SignalPlan) (step : ℕ) (p : Place) (closed : List Stretch) (n : ℕ) where
  abbrev count : ℕ
  count = cells_on net p

  abbrev list : ℕ
  list = cells_list n

  -- a motion, and then who has left is settled
  module _ (y0 y1 y2 : Yard) (away : Option ℕ) (extra : List Car) (told : Option ArrivedCar) (before after : List Watch)
      (whole : IsWhole y0) (rest : MovesList y0 y1 list away) (lane : IsLane y1 list count) (settled : Touches (buffer_list n ∷ []) y1 y2)
      (queue : cars_on y2 (buffer_list n) ≡ cars_on y1 (buffer_list n) ++ extra) (room : y2.room ≡ y1.room + length (option_to_list told)) (listed : NoneLoose y0 → NoneLoose y2) where
    moved-same : (other : ℕ) → other ≢ list → SameList y0 y1 other
    moved-same other ne = record { keys = other-same y0 y1 list other away ne whole rest; cars = other-cars y0 y1 list other away ne whole rest }

    moved-touches : Touches (list ∷ buffer_list n ∷ []) y0 y1
    moved-touches = record { count = rest.count; others = λ other away. moved-same other away.0; short = short-moves y0 y1 list away rest }

    cells-kept : SameList y1 y2 list
    cells-kept = settled.others list ((λ e. buffer-away n (sym e)), tt)

    pub MovesLane-settled : ((m : Traffic) → IsStepOf net signal step p m → IsLaneOf (lane_seen y0 closed count n) (lane_at m p) → Turns p y1 count n extra told before after m) → MovesLane net signal step p closed n y0 y2 told before after
    MovesLane-settled turns = record {
      touches = touch-trans (list ∷ buffer_list n ∷ []) y0 y1 y2 moved-touches (touch-wider (buffer_list n ∷ []) (list ∷ buffer_list n ∷ []) y1 y2 (λ other h. h.1) settled);
      room = room ∙ ap (λ (r : ℕ). r + length (option_to_list told)) rest.room;
      none_loose = listed;
      lane = IsLane-agree y1 y2 list cells-kept.keys cells-kept.cars count lane;
      goes = λ m now stood. (
          let t = turns m now stood in
          let buffer = cars-kept y0 y1 (buffer_list n) (moved-same (buffer_list n) (buffer-away n)) in
          let waiting = SameList-trans y0 y1 y2 (waiting_list n) (moved-same (waiting_list n) (waiting-away n).0) (settled.others (waiting_list n) ((waiting-away n).1, tt)) in
          let moved = motion (drive_on m p) (lane_at m p).track.cells (lane_at m p).track.closed in
          lane-parts y0 y2 closed count n (lane_at m p) (record (lane_at m p).track { cells = moved }) ((lane_at m p).queue ++ joining m p (leaver_of m p)) stood
          (ap (λ (cs : Cells). record (lane_seen y0 closed count n).track { cells = cs }) (cells-agree y1 y2 list cells-kept.keys cells-kept.cars count ∙ t.cells)
          ∙ ap (λ (s : Track). record s { cells = moved }) stood.track)
          (ap (map queued_of) (queue ∙ ap (λ (cs : List Car). cs ++ extra) buffer) ∙ map-append queued_of (cars_on y0 (buffer_list n)) extra ∙ ap (λ (q : List Queued). map queued_of (cars_on y0 (buffer_list n)) ++ q) t.joins ∙ ap (λ (q : List Queued). q ++ joining m p (leaver_of m p)) stood.queue)
          waiting);
      arrived = λ m now stood. (turns m now stood).arrives;
      watched = λ m now stood. (turns m now stood).notes;
    }

  -- ---- nobody is in the cells

  same-all : (ws : List Watch) (f : Watch → Watch) → ((w : Watch) → f w ≡ w) → ws ≡ map f ws
  same-all [] f h = refl
  same-all (w ∷ ws) f h = ap (λ (v : Watch). v ∷ ws) (sym (h w)) ∙ ap (λ (vs : List Watch). f w ∷ vs) (same-all ws f h)

  pub MovesLane-nobody : (y : Yard) (cells : ℕ) (told : Option ArrivedCar) (ws : List Watch) → cells ≡ list → IsWhole y → IsLane y list count → ◌≡◌ {A = Option ℕ} None (first_or (list_at y cells) None) → told ≡ None → MovesLane net signal step p closed n y y told ws ws
  MovesLane-nobody y cells told ws cells_is whole lane at_front none =
      let empty = no_head (list_at y list) None refl (subst (λ (l : ℕ). ◌≡◌ {A = Option ℕ} None (first_or (list_at y l) None)) cells_is at_front) in
      MovesLane-settled y y y None [] told ws ws whole
      (record { lists = refl; count = refl; room = refl; others = λ k h. refl; cars = λ k. refl; marks = λ k. refl; loose = λ x e. absurd (cc); whole = whole })
      lane (touch-same (buffer_list n ∷ []) y)
      (sym (append-nil (cars_on y (buffer_list n))))
      (sym (ap (λ (o : Option ArrivedCar). y.room + length (option_to_list o)) none ∙ add-zero y.room))
      (λ on. on)
      (λ m now stood. (
      let same : cells_at y list count ≡ (lane_at m p).track.cells = ap (λ (t : Track). t.cells) stood.track in
      let deserted = subst IsDeserted same (nobody-listed y list count whole empty) in
      let gone : leaver_of m p ≡ None = leaver-deserted (drive_on m p) (lane_at m p).track.cells (lane_at m p).track.closed deserted in
      record {
        cells = same ∙ sym (motion-deserted (drive_on m p) (lane_at m p).track.cells (lane_at m p).track.closed deserted);
        joins = sym (ap (joining m p) gone);
        arrives = none ∙ sym (ap arrived_car gone);
        notes = same-all ws (watched (drive_on m p) (lane_at m p).track) (watched-deserted (drive_on m p) (lane_at m p).track.cells (lane_at m p).track.closed deserted);
      }))

  -- ---- somebody is

  abbrev road : ℕ → Road
  road cells = record { network = net; link = p.link; lanes = record { list = cells; closed = closed } ∷ [] }

  module _ (y0 : Yard) (cells buffer key : ℕ) (exit : Bool) (way : Road) (dice : Odds) (y1 : Yard) (left : Option Leaver) (before after : List Watch)
      (cells_is : cells ≡ list) (buffer_is : buffer ≡ buffer_list n) (at_front : ◌≡◌ {A = Option ℕ} (Some key) (first_or (list_at y0 cells) None)) (whole : IsWhole y0) (lane : IsLane y0 list count)
      (told_exit : (car : Car) → car_of y0 key ≡ Some car → IsToldExit net signal step p (length (list_at y0 buffer)) car exit)
      (way_is : way ≡ road cells) (dice_is : dice ≡ odds_of net)
      (moved : MovedOn way y0 exit dice step y1 left before after) (kept : MovesList y0 y1 (lane_of way 0).list (option_map (λ (l : Leaver). l.key) left)) (lane_after : IsRoadLane y1 (length_of way) (lane_of way 0)) where
    split : (others : List ℕ) × (list_at y0 list ≡ key ∷ others)
    split = head_is key (list_at y0 list) (Some key) refl (subst (λ (l : ℕ). ◌≡◌ {A = Option ℕ} (Some key) (first_or (list_at y0 l) None)) cells_is at_front)

    held : (c : Car) × (car_of y0 key ≡ Some c)
    held = car_there y0 list key whole ([], split.0, split.1)

    abbrev car : Car
    car = held.0

    in_hand : IsToldExit net signal step p (length (list_at y0 (buffer_list n))) car exit
    in_hand = subst (λ (l : ℕ). IsToldExit net signal step p (length (list_at y0 l)) car exit) buffer_is (told_exit car held.1)

    road_is : way ≡ road list
    road_is = way_is ∙ ap road cells_is

    moved_on : MovedOn (road list) y0 exit (odds_of net) step y1 left before after
    moved_on = subst (λ (d : Odds). MovedOn (road list) y0 exit d step y1 left before after) dice_is (subst (λ (r : Road). MovedOn r y0 exit dice step y1 left before after) road_is moved)

    rest : MovesList y0 y1 list (option_map (λ (l : Leaver). l.key) left)
    rest = subst (λ (r : Road). MovesList y0 y1 (lane_of r 0).list (option_map (λ (l : Leaver). l.key) left)) road_is kept

    lane_then : IsLane y1 list count
    lane_then = (subst (λ (r : Road). IsRoadLane y1 (length_of r) (lane_of r 0)) road_is lane_after).stands

    abbrev limit : ℕ
    limit = (link_at net p.link).limit

    has-driven : (m : Traffic) → IsStepOf net signal step p m → IsLaneOf (lane_seen y0 closed count n) (lane_at m p) → IsToldExit net signal step p (length (list_at y0 (buffer_list n))) car exit
        → HasMoved (drive_with limit (is_exit_open m p) (odds_of net) step) (lane_seen y0 closed count n).track list count y1 left before after
    has-driven m now stood (inl far) =
        HasMoved-alike (drive_with limit (λ v. exit) (odds_of net) step) (drive_with limit (is_exit_open m p) (odds_of net) step) (lane_seen y0 closed count n).track
        (moved-far limit (odds_of net) step (lane_seen y0 closed count n).track (λ v. exit) (is_exit_open m p) (far-holds net signal step p m now y0 closed n key split.0 car whole lane split.1 held.1 far))
        list count y1 left before after (moved_on (λ v. exit) (λ x v there none. refl))
    has-driven m now stood (inr asked) = moved_on (is_exit_open m p) (exit-holds net signal step p m now y0 closed n key split.0 car whole lane split.1 held.1 stood exit asked)

    has-moved : (m : Traffic) → IsStepOf net signal step p m → IsLaneOf (lane_seen y0 closed count n) (lane_at m p) → HasMoved (drive_on m p) (lane_at m p).track list count y1 left before after
    has-moved m now stood =
        subst (λ (t : Track). HasMoved (drive_on m p) t list count y1 left before after) stood.track
        (subst (λ (d : Drive). HasMoved d (lane_seen y0 closed count n).track list count y1 left before after) (drive-is net signal step p m now) (has-driven m now stood in_hand))

    pub MovesLane-stays : (told : Option ArrivedCar) → left ≡ None → told ≡ None → MovesLane net signal step p closed n y0 y1 told before after
    MovesLane-stays told stays none =
        MovesLane-settled y0 y1 y1 (option_map (λ (l : Leaver). l.key) left) [] told before after whole rest lane_then (touch-same (buffer_list n ∷ []) y1)
        (sym (append-nil (cars_on y1 (buffer_list n))))
        (sym (ap (λ (o : Option ArrivedCar). y1.room + length (option_to_list o)) none ∙ add-zero y1.room))
        (λ on k loose. loose-moved y0 y1 list (option_map (λ (l : Leaver). l.key) left) whole rest on k loose (λ e. (let bad : ◌≡◌ {A = Option ℕ} None (Some k) = sym (ap (option_map (λ (l : Leaver). l.key)) stays) ∙ e in cc)))
        (λ m now stood. (
        let h = has-moved m now stood in
        let gone : leaver_of m p ≡ None = sym h.gone ∙ ap (option_and_then (λ (l : Leaver). vehicle_with y1 l.key)) stays in
        record { cells = h.cells; joins = sym (ap (joining m p) gone); arrives = none ∙ sym (ap arrived_car gone); notes = h.watches }))

    module _ (l : Leaver) (goes : left ≡ Some l) (end : NodeSpec) (end_is : end_node net p.link ≡ Some end) (ready : ℕ) (ready_is : step ≤ last_clock → ready ≡ step + end.residence) where
      -- who has left is loose, and so has a car
      pub leaver-loose : IsLoose y1 l.key
      leaver-loose = rest.loose l.key (ap (option_map (λ (l : Leaver). l.key)) goes)

      -- and nobody else is
      leaver-alone : NoneLoose y0 → NoneLooseBut l.key y1
      leaver-alone on k loose = elim (cases_eq k l.key) as (λ _. k ≡ l.key) [
        | inl e ↦ e
        | inr ne ↦ absurd (loose-moved y0 y1 list (option_map (λ (l : Leaver). l.key) left) whole rest on k loose (λ e. ne (let both : ◌≡◌ {A = Option ℕ} (Some l.key) (Some k) = sym (ap (option_map (λ (l : Leaver). l.key)) goes) ∙ e in cc)))
      ]

      joins-is : (m : Traffic) → IsStepOf net signal step p m → (v : Car) → map queued_of (behind_all ready v) ≡ joining m p (Some (vehicle_of v))
      joins-is m now v =
          let then_on : ready ≡ m.clock + option_map_or (λ (node : NodeSpec). node.residence) (end_node m.network p.link) 0 =
          ready_is now.in_time
          ∙ sym (ap (λ (s : NetSpec). m.clock + option_map_or (λ (node : NodeSpec). node.residence) (end_node s p.link) 0) now.network
          ∙ ap (λ (o : Option NodeSpec). m.clock + option_map_or (λ (node : NodeSpec). node.residence) o 0) end_is
          ∙ ap (λ (t : ℕ). t + end.residence) now.clock) in
          elim (cases_Bool (is_on_last (vehicle_of v))) as (λ _. map queued_of (behind_all ready v) ≡ joining m p (Some (vehicle_of v))) [
            | inl t ↦ ap (map queued_of) (cond-true _ _ _ t) ∙ sym (cond-true _ _ _ t)
            | inr f ↦ ap (map queued_of) (cond-false _ _ _ f) ∙ ap (λ (r : ℕ). record { vehicle = vehicle_of v; ready = r } ∷ []) then_on ∙ sym (cond-false _ _ _ f)
          ]

      module _ (v : Car) (v_is : car_of y1 l.key ≡ Some v) (y2 : Yard) (told : Option ArrivedCar) (settled : Settles (buffer_list n) ready v y1 y2 told) (listed : NoneLooseBut l.key y1 → NoneLoose y2) where
        MovesLane-car : MovesLane net signal step p closed n y0 y2 told before after
        MovesLane-car =
            MovesLane-settled y0 y1 y2 (option_map (λ (l : Leaver). l.key) left) (behind_all ready v) told before after whole rest lane_then settled.touches settled.queue settled.room (λ on. listed (leaver-alone on))
            (λ m now stood. (
            let h = has-moved m now stood in
            let gone : leaver_of m p ≡ Some (vehicle_of v) = sym h.gone ∙ ap (option_and_then (λ (l : Leaver). vehicle_with y1 l.key)) goes ∙ ap (option_map vehicle_of) v_is in
            record { cells = h.cells; joins = joins-is m now v ∙ sym (ap (joining m p) gone); arrives = settled.arrived ∙ sym (ap arrived_car gone); notes = h.watches }))

      loose_car : (o : Option YardEntry) → IsSomeAnd o (λ (e : YardEntry). e.list ≡ None) → (c : Car) × (option_map (λ (e : YardEntry). e.car) o ≡ Some c)
      loose_car None h = absurd h
      loose_car (Some e) h = (e.car, refl)

      pub MovesLane-leaves : (y2 : Yard) (told : Option ArrivedCar) → ((v : Car) → car_of y1 l.key ≡ Some v → Settles buffer ready v y1 y2 told) → (NoneLooseBut l.key y1 → NoneLoose y2) → MovesLane net signal step p closed n y0 y2 told before after
      MovesLane-leaves y2 told settled listed =
          let v = loose_car (entry_at y1 l.key) leaver-loose in
          MovesLane-car v.0 v.1 y2 told (subst (λ (b : ℕ). Settles b ready v.0 y1 y2 told) buffer_is (settled v.0 v.1)) listed
