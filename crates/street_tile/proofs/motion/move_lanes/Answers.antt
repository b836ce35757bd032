use Rattle.std.proofs.Common.{◌≡◌, ℕ, ◌+◌, ◌-◌, ◌*◌, ◌<◌, ◌≤◌, List, [], ◌∷◌, ◌++◌, Option, option_map, false, length, map, take, filter_map, set, get_or, inl, inr, vec_len, vec_capacity, arith, refl, sym, ap, subst, ◌∙◌, Some, None}
use Rattle.std.proofs.lemmas.List.{append-nil, length-set, set-get_or}
use Rattle.std.proofs.lemmas.Bool.{cases_lt}
use Rattle.std.proofs.lemmas.Option.{slice_get_within}
use Rattle.street_base.specs.declared.names.Place.{Place}
use Rattle.street_base.specs.Prelude.{Traffic, lane_at, driven, driven_lane, arrival, leaver_of, arrived_spot}
use Rattle.street_lanes.specs.declared.motion.ArrivedCar.{ArrivedCar}
use Rattle.street_record.specs.Rows.{arrival_row, arrival_at}
use Rattle.street_tile.specs.Record.{arrived_from}
use Rattle.street_lanes.specs.Prelude.{arrived_car, LaneStands, lane_of, place_at, LanesStand, cells_on, Detectors, watch_of}
use Rattle.street_net.specs.Prelude.{slot_of}
use Rattle.street_tile.specs.Prelude.{AreBare, IsOfStep, detectors_at}
use Rattle.street_tile.proofs.SameLanes.{LanesDone, same-none, same-then, same-long, of-same, even-of, lanes-start, lanes-here, lanes-next, lanes-all, place-is}
use Rattle.street_tile.proofs.TileMotion.{lane_at-driven, arrival-number, arrived-row, arrivals-more, arrivals-all}
use Rattle.street_tile.proofs.HeldMouths.{slot-inside}
use Rattle.street_tile.proofs.ShownLanes.{free-after, free-over, free-all}
use Rattle.street_tile.proofs.DrivenLanes.{driven-over, arrived-over, watched-bare}
use Rattle.street_tile.proofs.MetersStand.{keep-sizes, detectors-even, size-at, keep-next, watched-next}
use Rattle.street_tile.proofs.motion.move_lanes.Goals as goal
use Rattle.street_tile.proofs.motion.move_lanes.Goals.{in-Some, in_default, After-next_to_move-n-in-loop-n}

pub move_lane-requires-clause-lane : goal.move_lane-requires-clause-lane
move_lane-requires-clause-lane c = let e = same-long c.args.own.now c.loop-n.own c.loop-n.invariant.same in omega arith

pub move_lane-requires-clause-of : goal.move_lane-requires-clause-of
move_lane-requires-clause-of c = of-same c.args.step.now.net.now c.args.own.now c.loop-n.own c.loop-n.invariant.same c.requires.ready.of

pub move_lane-requires-clause-size : goal.move_lane-requires-clause-size
move_lane-requires-clause-size c =
    let of = of-same c.args.step.now.net.now c.args.own.now c.loop-n.own c.loop-n.invariant.same c.requires.ready.of in
    let places = c.loop-n.invariant.same.places in
    let long : length c.loop-n.own.places ≡ length c.args.own.now.places = ap length places in
    let sized = keep-sizes c.args.detectors.now c.loop-n.detectors c.loop-n.invariant.detectors ∙ c.requires.ready.sized ∙ ap (map (cells_on c.args.step.now.net.now)) (sym places) in
    size-at c.args.step.now.net.now c.loop-n.own of c.loop-n.detectors sized c.loop-n.n (omega (arith, long)) _

inside : (c : After-next_to_move-n-in-loop-n) → c.loop-n.n < length c.args.own.now.places
inside c = let places = ap length c.loop-n.invariant.same.places in omega (arith, places)

module _ (c : After-next_to_move-n-in-loop-n) (m : Traffic) (of : IsOfStep c.args.step.now m) (stand : LanesStand c.args.own.now.places c.args.own.now.lanes m) where
  within : c.loop-n.n < length c.args.own.now.places
  within = inside c

  same_place : place_at c.loop-n.own c.loop-n.n ≡ place_at c.args.own.now c.loop-n.n
  same_place = rw c.loop-n.invariant.same.places refl

  here : LaneStands (lane_of c.loop-n.own c.loop-n.n) (lane_at m (place_at c.loop-n.own c.loop-n.n))
  here = subst (λ (p : Place). LaneStands (lane_of c.loop-n.own c.loop-n.n) (lane_at m p)) (sym same_place) (lanes-here (driven_lane m) m c.args.own.now c.loop-n.n c.loop-n.own (c.loop-n.invariant.done m of stand) stand within (let long = same-long c.args.own.now c.loop-n.own c.loop-n.invariant.same in omega (arith, long)))

  next_stands : LaneStands (lane_of c.move_lane.new.own c.loop-n.n) (driven_lane m (place_at c.args.own.now c.loop-n.n) (lane_at m (place_at c.args.own.now c.loop-n.n)))
  next_stands = subst (λ (p : Place). LaneStands (lane_of c.move_lane.new.own c.loop-n.n) (driven_lane m p (lane_at m p))) same_place (c.move_lane.ensures.drives.stands m of here)

  gone : c.move_lane.result ≡ arrived_car (leaver_of m (place_at c.args.own.now c.loop-n.n))
  gone = c.move_lane.ensures.drives.arrived m of here ∙ ap (λ (p : Place). arrived_car (leaver_of m p)) same_place

  number_gone : (told : Option ArrivedCar) → c.move_lane.result ≡ told → option_map (λ (a : ArrivedCar). a.number) told ≡ arrival (leaver_of m (place_at c.args.own.now c.loop-n.n))
  number_gone told is = ap (option_map (λ (a : ArrivedCar). a.number)) (sym is ∙ gone) ∙ arrival-number (leaver_of m (place_at c.args.own.now c.loop-n.n))

  row_gone : (told : Option ArrivedCar) → c.move_lane.result ≡ told → option_map (arrived_from (slot_of (place_at c.args.own.now c.loop-n.n))) told ≡ arrival_at m (place_at c.args.own.now c.loop-n.n)
  row_gone told is = ap (option_map (arrived_from (slot_of (place_at c.args.own.now c.loop-n.n)))) (sym is ∙ gone) ∙ arrived-row (place_at c.args.own.now c.loop-n.n) (leaver_of m (place_at c.args.own.now c.loop-n.n))

  saw : c.move_lane.new.detectors.watches ≡ map (watch_of m (place_at c.args.own.now c.loop-n.n)) (get_or c.loop-n.detectors c.loop-n.n c.index-detectors-n.result).meters
  saw = c.move_lane.ensures.watches.watched m of here ∙ ap (λ (p : Place). map (watch_of m p) (get_or c.loop-n.detectors c.loop-n.n c.index-detectors-n.result).meters) same_place

there : (c : After-next_to_move-n-in-loop-n) → c.loop-n.n < length c.args.detectors.now
there c =
    let long = detectors-even c.args.step.now.net.now c.args.own.now c.requires.ready.of c.args.detectors.now c.requires.ready.sized in
    omega (arith, long, inside c)

abbrev Arrived : (c : After-next_to_move-n-in-loop-n) → Type 0
Arrived c = record {
  left : vec_len c.match-move_lane.arrived + (length c.args.own.now.places - (c.loop-n.n + 1)) ≤ vec_capacity c.match-move_lane.arrived;
  capacity : vec_capacity c.args.arrived.now ≤ vec_capacity c.match-move_lane.arrived;
  arrived : (m : Traffic) → IsOfStep c.args.step.now m → LanesStand c.args.own.now.places c.args.own.now.lanes m
      → c.match-move_lane.arrived.items ≡ c.args.arrived.now.items ++ filter_map (λ p. arrival (leaver_of m p)) (take (c.loop-n.n + 1) c.args.own.now.places);
  rows_room : vec_len c.match-move_lane.left + (length c.args.own.now.places - (c.loop-n.n + 1)) ≤ vec_capacity c.match-move_lane.left;
  rows_capacity : vec_capacity c.args.left.now ≤ vec_capacity c.match-move_lane.left;
  rows : (m : Traffic) → IsOfStep c.args.step.now m → LanesStand c.args.own.now.places c.args.own.now.lanes m
      → c.match-move_lane.left.items ≡ c.args.left.now.items ++ filter_map (arrival_at m) (take (c.loop-n.n + 1) c.args.own.now.places);
}

at-is : (c : After-next_to_move-n-in-loop-n) → c.at-at.result ≡ place_at c.args.own.now c.loop-n.n
at-is c = c.at-at.ensures ∙ rw c.loop-n.invariant.same.places refl

slot-is : (c : After-next_to_move-n-in-loop-n) → c.slot-slot.result ≡ slot_of (place_at c.args.own.now c.loop-n.n)
slot-is c = c.slot-slot.ensures ∙ ap (λ (q : Place). slot_of q) (at-is c)

-- who arrived from lane n is told
lane-told : (c : After-next_to_move-n-in-loop-n) → Arrived c
lane-told c =
    let ps = c.args.own.now.places in
    let p = place_at c.args.own.now c.loop-n.n in
    let there = place-is c.args.own.now c.loop-n.n (inside c) in
    elim c.match-move_lane.branch [
      | in-Some w ↦ (
          let e = w.push_reserved.ensures in
          let f = w.push_reserved-in-Some.ensures in
          rw (w.arrived-is, w.left-is) (record {
            left = omega (arith, inside c, c.loop-n.invariant.left, e.len, e.capacity);
            capacity = omega (arith, c.loop-n.invariant.capacity, e.capacity);
            arrived = λ m of stand.
                arrivals-more (λ q. arrival (leaver_of m q)) ps c.loop-n.n p there c.args.arrived.now.items c.loop-n.arrived.items w.push_reserved.new.self.items (Some w.in-Some.car.number) (c.loop-n.invariant.arrived m of stand) (number_gone c m of stand (Some w.in-Some.car) w.in-Some.is) e.items;
            rows_room = omega (arith, inside c, c.loop-n.invariant.rows_room, f.len, f.capacity);
            rows_capacity = omega (arith, c.loop-n.invariant.rows_capacity, f.capacity);
            rows = λ m of stand.
                arrivals-more (arrival_at m) ps c.loop-n.n p there c.args.left.now.items c.loop-n.left.items w.push_reserved-in-Some.new.self.items (Some (arrived_from (slot_of p) w.in-Some.car)) (c.loop-n.invariant.rows m of stand) (row_gone c m of stand (Some w.in-Some.car) w.in-Some.is)
                (f.items
                ∙ ap (λ (s : ℕ). c.loop-n.left.items ++ record { car = w.in-Some.car.number; slot = c.slot-slot.result; spot = arrived_spot; speed = s } ∷ []) w.from.ensures
                ∙ ap (λ (k : ℕ). c.loop-n.left.items ++ arrived_from k w.in-Some.car ∷ []) (slot-is c));
          }))
      | in_default w ↦ rw (w.arrived-is, w.left-is) (record {
        left = omega (arith, inside c, c.loop-n.invariant.left);
        capacity = c.loop-n.invariant.capacity;
        arrived = λ m of stand.
            arrivals-more (λ q. arrival (leaver_of m q)) ps c.loop-n.n p there c.args.arrived.now.items c.loop-n.arrived.items c.loop-n.arrived.items None (c.loop-n.invariant.arrived m of stand) (number_gone c m of stand None w.in_default.is) (sym (append-nil c.loop-n.arrived.items));
        rows_room = omega (arith, inside c, c.loop-n.invariant.rows_room);
        rows_capacity = c.loop-n.invariant.rows_capacity;
        rows = λ m of stand.
            arrivals-more (arrival_at m) ps c.loop-n.n p there c.args.left.now.items c.loop-n.left.items c.loop-n.left.items None (c.loop-n.invariant.rows m of stand) (row_gone c m of stand None w.in_default.is) (sym (append-nil c.loop-n.left.items));
      })
    ]

pub loop-n-init : goal.loop-n-init
loop-n-init c =
    let own = c.args.own.now in
    let next = c.next_to_move-n.ensures in
    let even = even-of c.args.step.now.net.now own c.requires.ready.of in
    let long = detectors-even c.args.step.now.net.now own c.requires.ready.of c.args.detectors.now c.requires.ready.sized in
    record {
      within = next.within;
      same = same-none own;
      room = omega arith;
      left = omega (arith, c.requires.room);
      capacity = omega arith;
      done = λ m of stand. driven-over m own own stand even 0 c.next_to_move-n.result next.not_before next.within (lanes-start (driven_lane m) m own) (λ i above below. (next.passed i above below).1);
      arrived = λ m of stand.
          arrived-over m own own stand even 0 c.next_to_move-n.result next.not_before next.within (lanes-start (driven_lane m) m own) (λ i above below. (next.passed i above below).1) (λ p. arrival) (λ p. refl) c.args.arrived.now.items c.args.arrived.now.items (sym (append-nil c.args.arrived.now.items));
      rows_room = omega (arith, c.requires.rows);
      rows_capacity = omega arith;
      rows = λ m of stand.
          arrived-over m own own stand even 0 c.next_to_move-n.result next.not_before next.within (lanes-start (driven_lane m) m own) (λ i above below. (next.passed i above below).1) arrival_row (λ p. refl) c.args.left.now.items c.args.left.now.items (sym (append-nil c.args.left.now.items));
      wide = c.show_closed.ensures.wide;
      shown = free-over own.places own 0 c.next_to_move-n.result c.show_closed.new.mouths (λ i above below. (next.passed i above below).1) next.not_before
          (λ j p at. record { free = λ below. absurd (omega arith); unclosed = λ above. c.show_closed.ensures.shown j p at });
      detectors = record { even = refl; each = λ k. refl };
      bare = λ none. refl;
      watched = λ m of stand k p below at. watched-bare c.args.detectors.now (c.requires.ready.bare (next.passed k (omega arith) below).0) m p k (let h = slice_get_within own.places k p at in omega (arith, h, long));
    }

pub loop-n-preserved : goal.loop-n-preserved
loop-n-preserved c =
    let old = c.args.own.now in
    let now = c.move_lane.new.own in
    let told = lane-told c in
    let next = c.next_to_move-n-in-loop-n.ensures in
    let same = same-then old c.loop-n.own now c.loop-n.invariant.same c.move_lane.ensures.drives.same in
    let lanes = same-long old now same in
    let even = even-of c.args.step.now.net.now old c.requires.ready.of in
    let long = detectors-even c.args.step.now.net.now old c.requires.ready.of c.args.detectors.now c.requires.ready.sized in
    let within : c.next_to_move-n-in-loop-n.result ≤ length old.lanes = omega (arith, next.within, lanes) in
    let done : (m : Traffic) (of : IsOfStep c.args.step.now m) (stand : LanesStand old.places old.lanes m) → LanesDone (driven_lane m) m old (c.loop-n.n + 1) now =
    λ m of stand. lanes-next (driven_lane m) m old c.loop-n.n c.loop-n.own now (c.loop-n.invariant.done m of stand) c.move_lane.ensures.drives.same c.move_lane.ensures.drives.others (next_stands c m of stand) in
    let bare : c.args.step.now.has_meters ≡ false → set c.loop-n.detectors c.loop-n.n c.move_lane.new.detectors ≡ c.args.detectors.now =
    λ none. ap (set c.loop-n.detectors c.loop-n.n) (c.move_lane.ensures.watches.bare none) ∙ set-get_or c.loop-n.detectors c.loop-n.n c.index-detectors-n.result ∙ c.loop-n.invariant.bare none in
    record {
      within = within;
      same = same;
      room = omega (arith, c.loop-n.invariant.room, c.move_lane.ensures.drives.room);
      left = omega (arith, told.left, next.not_before);
      capacity = told.capacity;
      done = λ m of stand. driven-over m old now stand even (c.loop-n.n + 1) c.next_to_move-n-in-loop-n.result next.not_before within (done m of stand) (λ i above below. (next.passed i above below).1);
      arrived = λ m of stand.
          arrived-over m old now stand even (c.loop-n.n + 1) c.next_to_move-n-in-loop-n.result next.not_before within (done m of stand) (λ i above below. (next.passed i above below).1) (λ p. arrival) (λ p. refl) c.args.arrived.now.items c.match-move_lane.arrived.items (told.arrived m of stand);
      rows_room = omega (arith, told.rows_room, next.not_before);
      rows_capacity = told.rows_capacity;
      rows = λ m of stand.
          arrived-over m old now stand even (c.loop-n.n + 1) c.next_to_move-n-in-loop-n.result next.not_before within (done m of stand) (λ i above below. (next.passed i above below).1) arrival_row (λ p. refl) c.args.left.now.items c.match-move_lane.left.items (told.rows m of stand);
      wide = length-set c.loop-n.mouths c.slot-slot.result c.is_open.result ∙ c.loop-n.invariant.wide;
      shown =
          let p = place_at old c.loop-n.n in
          let slot : c.slot-slot.result ≡ slot_of p = slot-is c in
          free-over old.places now (c.loop-n.n + 1) c.next_to_move-n-in-loop-n.result (set c.loop-n.mouths c.slot-slot.result c.is_open.result) (λ i above below. (next.passed i above below).1) next.not_before
          (rw slot
          (free-after c.args.step.now.net.now c.requires.ready.roads old.places c.requires.ready.of.own c.requires.once c.loop-n.own now c.loop-n.n p c.loop-n.mouths c.is_open.result (place-is old c.loop-n.n (inside c)) (c.loop-n.invariant.wide ∙ c.requires.wide) c.loop-n.invariant.shown c.move_lane.ensures.drives.others c.is_open.ensures));
      detectors = keep-next c.args.detectors.now c.loop-n.detectors c.loop-n.invariant.detectors c.loop-n.n (there c) c.move_lane.new.detectors c.index-detectors-n.result c.move_lane.ensures.watches.meters;
      bare = bare;
      watched = λ m of stand k p below at.
          elim (cases_lt k (c.loop-n.n + 1)) as (λ _. (detectors_at (set c.loop-n.detectors c.loop-n.n c.move_lane.new.detectors) k).watches ≡ map (watch_of m p) (detectors_at (set c.loop-n.detectors c.loop-n.n c.move_lane.new.detectors) k).meters) [
            | inl sooner ↦ watched-next c.args.detectors.now c.loop-n.detectors c.loop-n.invariant.detectors c.loop-n.n (there c) c.move_lane.new.detectors c.index-detectors-n.result c.move_lane.ensures.watches.meters m old.places
                (c.loop-n.invariant.watched m of stand) (place_at old c.loop-n.n) (place-is old c.loop-n.n (inside c)) (saw c m of stand) k p sooner at
            | inr later ↦ (
                let none = (next.passed k later below).0 in
                subst (λ (ds : List Detectors). (detectors_at ds k).watches ≡ map (watch_of m p) (detectors_at ds k).meters) (sym (bare none))
                (watched-bare c.args.detectors.now (c.requires.ready.bare none) m p k (let h = slice_get_within old.places k p at in omega (arith, h, long))))
          ];
    }

pub slot-slot-requires : goal.slot-slot-requires
slot-slot-requires c =
    let places = ap length c.loop-n.invariant.same.places in
    let small : slot_of c.at-at.result < 65536 = subst (λ (p : Place). slot_of p < 65536) (sym (c.at-at.ensures ∙ rw c.loop-n.invariant.same.places refl)) (slot-inside c.args.step.now.net.now c.requires.ready.roads c.args.own.now c.requires.ready.of.own c.loop-n.n (omega (arith, places))).0 in
    omega arith

pub bounds-mouths-slot : goal.bounds-mouths-slot
bounds-mouths-slot c =
    let places = ap length c.loop-n.invariant.same.places in
    let inside : slot_of c.at-at.result < 2 * length c.args.step.now.net.now.links =
    subst (λ (p : Place). slot_of p < 2 * length c.args.step.now.net.now.links) (sym (c.at-at.ensures ∙ rw c.loop-n.invariant.same.places refl)) (slot-inside c.args.step.now.net.now c.requires.ready.roads c.args.own.now c.requires.ready.of.own c.loop-n.n (omega (arith, places))).1 in
    let wide = c.loop-n.invariant.wide in
    let asked = c.requires.wide in
    let is = c.slot-slot.ensures in
    omega arith

pub returns-clause-shown : goal.returns-clause-shown
returns-clause-shown c =
    let places = c.loop-n.invariant.same.places in
    let long = ap length places in
    free-all c.loop-n.own c.args.own.now.places c.loop-n.n c.loop-n.mouths places (even-of c.args.step.now.net.now c.loop-n.own (of-same c.args.step.now.net.now c.args.own.now c.loop-n.own c.loop-n.invariant.same c.requires.ready.of)) (omega (arith, long)) c.loop-n.invariant.shown

pub move_lane-requires-clause-bare : goal.move_lane-requires-clause-bare
move_lane-requires-clause-bare c = λ none. subst AreBare (sym (c.loop-n.invariant.bare none)) (c.requires.ready.bare none) c.loop-n.n c.index-detectors-n.result (let e = c.loop-n.invariant.detectors.even in let long = detectors-even c.args.step.now.net.now c.args.own.now c.requires.ready.of c.args.detectors.now c.requires.ready.sized in let places = ap length c.loop-n.invariant.same.places in omega (arith, e, long, places))

pub returns-clause-drives : goal.returns-clause-drives
returns-clause-drives c = record {
  same = c.loop-n.invariant.same;
  room = c.loop-n.invariant.room;
  stand = λ m of stand.
      lanes-all (driven_lane m) m c.args.own.now c.loop-n.n c.loop-n.own (c.loop-n.invariant.done m of stand) (let places = ap length c.loop-n.invariant.same.places in omega (arith, places)) (driven m)
      (λ j p at. lane_at-driven c.args.step.now.net.now m of.on p (c.requires.ready.of.own j p at));
  arrived = λ m of stand. arrivals-all (λ p. arrival (leaver_of m p)) c.args.own.now.places c.loop-n.n c.args.arrived.now.items c.loop-n.arrived.items (c.loop-n.invariant.arrived m of stand) (let places = ap length c.loop-n.invariant.same.places in omega (arith, places));
  rows = λ m of stand. arrivals-all (arrival_at m) c.args.own.now.places c.loop-n.n c.args.left.now.items c.loop-n.left.items (c.loop-n.invariant.rows m of stand) (let places = ap length c.loop-n.invariant.same.places in omega (arith, places));
}

pub returns-clause-watches : goal.returns-clause-watches
returns-clause-watches c = record {
  meters = c.loop-n.invariant.detectors;
  bare = c.loop-n.invariant.bare;
  watched = λ m of stand k p at.
      let within = slice_get_within c.args.own.now.places k p at in
      let places = ap length c.loop-n.invariant.same.places in
      c.loop-n.invariant.watched m of stand k p (omega (arith, within, places)) at;
}
