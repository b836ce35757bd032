use Rattle.std.proofs.Common.{◌≡◌, ℕ, ◌+◌, ◌-◌, ◌<◌, ◌≤◌, List, Bool, length, vec_len, vec_capacity, arith, refl, sym, ap, subst, ◌∙◌, inl, inr, Some, None}
use Rattle.std.proofs.lemmas.Bool.{cases_Bool}
use Rattle.street_base.specs.declared.names.Place.{Place}
use Rattle.street_base.specs.Prelude.{Traffic, lane_at, target}
use Rattle.street_lanes.specs.Prelude.{LaneStands, Lanes, Same, lane_of, place_at}
use Rattle.street_tile.specs.Prelude.{Transfer, IsRoads, IsReleasing}
use Rattle.street_net.specs.Prelude.{mouth}
use Rattle.street_tile.proofs.SameLanes.{same-none, same-then, same-long}
use Rattle.street_node.proofs.Crossings.{leads-of}
use Rattle.street_tile.proofs.TileReleases.{IsReleased, released-start, released-here, released-none, released-shut, released-goes, released-over, released-lanes, released-handed}
use Rattle.street_tile.proofs.release.release_lanes.Goals as goal
use Rattle.street_tile.proofs.release.release_lanes.Goals.{in-Some, in_default, After-next_filled-n-in-loop-n}

pub loop-n-init : goal.loop-n-init
loop-n-init c = record {
  within = c.next_filled-n.ensures.within;
  same = same-none c.args.own.now;
  room = omega arith;
  left = omega (arith, c.requires.room);
  kept = omega arith;
  released = λ roads even m r.
      let next = c.next_filled-n.ensures in
      released-over c.args.net.now roads c.args.clock c.args.own.now even c.args.mouths.now c.args.handed.now.items m r 0 c.next_filled-n.result c.args.own.now c.args.mouths.now c.args.handed.now.items (omega arith) (omega (arith, next.within, even)) next.passed
      (released-start c.args.net.now roads c.args.clock c.args.own.now even c.args.mouths.now c.args.handed.now.items m r);
}

pub lane_for_front-requires-clause-lane : goal.lane_for_front-requires-clause-lane
lane_for_front-requires-clause-lane c = let e = same-long c.args.own.now c.loop-n.own c.loop-n.invariant.same in omega arith

pub release_front-requires-clause-lane : goal.release_front-requires-clause-lane
release_front-requires-clause-lane c = let e = same-long c.args.own.now c.loop-n.own c.loop-n.invariant.same in omega arith

module _ (c : After-next_filled-n-in-loop-n) (roads : IsRoads c.args.net.now) (even : length c.args.own.now.lanes ≡ length c.args.own.now.places) (m : Traffic) (r : IsReleasing c.args.net.now c.args.clock c.args.own.now c.args.mouths.now m) where
  within : c.loop-n.n < length c.args.own.now.places
  within = let e = same-long c.args.own.now c.loop-n.own c.loop-n.invariant.same in omega (arith, e, even)

  abbrev from : Place
  from = place_at c.args.own.now c.loop-n.n

  same_place : place_at c.loop-n.own c.loop-n.n ≡ from
  same_place = rw c.loop-n.invariant.same.places refl

  abbrev Done : ℕ → Lanes → List Bool → List Transfer → Type 0
  Done k own mouths handed = IsReleased c.args.net.now roads c.args.clock c.args.own.now even c.args.mouths.now c.args.handed.now.items m r k own mouths handed

  so_far : Done c.loop-n.n c.loop-n.own c.loop-n.mouths c.loop-n.handed.items
  so_far = c.loop-n.invariant.released roads even m r

  here : LaneStands (lane_of c.loop-n.own c.loop-n.n) (lane_at m from)
  here = released-here c.args.net.now roads c.args.clock c.args.own.now even c.args.mouths.now c.args.handed.now.items m r c.loop-n.n c.loop-n.own c.loop-n.mouths c.loop-n.handed.items within so_far

  here_too : LaneStands (lane_of c.loop-n.own c.loop-n.n) (lane_at m (place_at c.loop-n.own c.loop-n.n))
  here_too = subst (λ (p : Place). LaneStands (lane_of c.loop-n.own c.loop-n.n) (lane_at m p)) (sym same_place) here

-- what the loop keeps, once lane n is done
abbrev Kept : After-next_filled-n-in-loop-n → Type 0
Kept c = record {
  same : Same c.args.own.now c.match-lane_for_front.own;
  room : c.args.own.now.room ≤ c.match-lane_for_front.own.room;
  left : vec_len c.match-lane_for_front.handed + (length c.args.own.now.places - (c.loop-n.n + 1)) ≤ vec_capacity c.match-lane_for_front.handed;
  kept : vec_capacity c.args.handed.now ≤ vec_capacity c.match-lane_for_front.handed;
  released : (roads : IsRoads c.args.net.now) (even : length c.args.own.now.lanes ≡ length c.args.own.now.places) (m : Traffic) (r : IsReleasing c.args.net.now c.args.clock c.args.own.now c.args.mouths.now m)
      → IsReleased c.args.net.now roads c.args.clock c.args.own.now even c.args.mouths.now c.args.handed.now.items m r (c.loop-n.n + 1) c.match-lane_for_front.own c.match-lane_for_front.mouths c.match-lane_for_front.handed.items;
}

inside : (c : After-next_filled-n-in-loop-n) → c.loop-n.n < length c.args.own.now.places
inside c = let places = ap length c.loop-n.invariant.same.places in omega (arith, places)

lane-done : (c : After-next_filled-n-in-loop-n) → Kept c
lane-done c =
    elim c.match-lane_for_front.branch [
      | in-Some w ↦ (
          let e = w.release_front.ensures in
          rw (w.own-is, w.mouths-is, w.handed-is) (record {
            same = elim (cases_Bool (mouth c.loop-n.mouths w.in-Some.to)) [
              | inl is_open ↦ same-then c.args.own.now c.loop-n.own w.release_front.new.own c.loop-n.invariant.same (e.front.goes is_open).same
              | inr is_shut ↦ rw (e.front.shut is_shut).0 c.loop-n.invariant.same
            ];
            room = omega (arith, c.loop-n.invariant.room, e.front.room);
            left = omega (arith, inside c, c.loop-n.invariant.left, e.grown, e.kept);
            kept = omega (arith, c.loop-n.invariant.kept, e.kept);
            released = λ roads even m r.
                let leads : target m (place_at c.args.own.now c.loop-n.n) ≡ Some w.in-Some.to =
                ap (target m) (sym (same_place c roads even m r)) ∙ sym (c.lane_for_front.ensures.goes m r.on.network r.in_time (here_too c roads even m r)) ∙ rw w.in-Some.is refl in
                let inside = w.in-Some.ensures.inside in
                elim (cases_Bool (mouth c.loop-n.mouths w.in-Some.to)) [
                  | inl is_open ↦ (
                      let lead = leads-of m (place_at c.args.own.now c.loop-n.n) w.in-Some.to leads in
                      rw (e.front.mouths is_open lead.0 (record { lane = lane_at m (place_at c.args.own.now c.loop-n.n); stands = here c roads even m r; first = lead.1.front }))
                      (released-goes c.args.net.now roads c.args.clock c.args.own.now even c.args.mouths.now c.args.handed.now.items m r c.loop-n.n c.loop-n.own c.loop-n.mouths c.loop-n.handed.items (within c roads even m r) (so_far c roads even m r) w.in-Some.to leads inside
                      w.release_front.new.own w.release_front.new.handed.items (omega (arith, c.requires.wide)) is_open (e.front.goes is_open)
                      (λ q l. e.front.handed is_open q (record { lane = lane_at m (place_at c.args.own.now c.loop-n.n); stands = here c roads even m r; first = l.front }) l.next)))
                  | inr is_shut ↦ (
                      let kept = e.front.shut is_shut in
                      rw (kept.0, kept.1, kept.2)
                      (released-shut c.args.net.now roads c.args.clock c.args.own.now even c.args.mouths.now c.args.handed.now.items m r c.loop-n.n c.loop-n.own c.loop-n.mouths c.loop-n.handed.items (within c roads even m r) (so_far c roads even m r) w.in-Some.to leads inside is_shut))
                ];
          }))
      | in_default w ↦ rw (w.own-is, w.mouths-is, w.handed-is) (record {
        same = c.loop-n.invariant.same;
        room = c.loop-n.invariant.room;
        left = omega (arith, inside c, c.loop-n.invariant.left);
        kept = c.loop-n.invariant.kept;
        released = λ roads even m r.
            let none : target m (place_at c.args.own.now c.loop-n.n) ≡ None =
            ap (target m) (sym (same_place c roads even m r)) ∙ sym (c.lane_for_front.ensures.goes m r.on.network r.in_time (here_too c roads even m r)) ∙ rw w.in_default.is refl in
            released-none c.args.net.now roads c.args.clock c.args.own.now even c.args.mouths.now c.args.handed.now.items m r c.loop-n.n c.loop-n.own c.loop-n.mouths c.loop-n.handed.items (within c roads even m r) (so_far c roads even m r) none;
      })
    ]

pub loop-n-preserved : goal.loop-n-preserved
loop-n-preserved c =
    let done = lane-done c in
    let next = c.next_filled-n-in-loop-n.ensures in
    let long = same-long c.args.own.now c.match-lane_for_front.own done.same in
    record {
      within = omega (arith, next.within, long);
      same = done.same;
      room = done.room;
      left = omega (arith, done.left, next.not_before);
      kept = done.kept;
      released = λ roads even m r.
          released-over c.args.net.now roads c.args.clock c.args.own.now even c.args.mouths.now c.args.handed.now.items m r (c.loop-n.n + 1) c.next_filled-n-in-loop-n.result c.match-lane_for_front.own c.match-lane_for_front.mouths c.match-lane_for_front.handed.items
          next.not_before (omega (arith, next.within, long, even)) next.passed (done.released roads even m r);
    }

pub returns-clause-lanes : goal.returns-clause-lanes
returns-clause-lanes c = λ m r.
    let long = same-long c.args.own.now c.loop-n.own c.loop-n.invariant.same in
    let places = ap length c.loop-n.invariant.same.places in
    let even : length c.args.own.now.lanes ≡ length c.args.own.now.places = omega (arith, long, places) in
    released-lanes c.args.net.now c.requires.roads c.args.clock c.args.own.now even c.args.mouths.now c.args.handed.now.items m r c.requires.there c.loop-n.n c.loop-n.own c.loop-n.mouths c.loop-n.handed.items (c.loop-n.invariant.released c.requires.roads even m r) (omega (arith, long, places))

pub returns-clause-handed : goal.returns-clause-handed
returns-clause-handed c = λ m r.
    let long = same-long c.args.own.now c.loop-n.own c.loop-n.invariant.same in
    let places = ap length c.loop-n.invariant.same.places in
    let even : length c.args.own.now.lanes ≡ length c.args.own.now.places = omega (arith, long, places) in
    released-handed c.args.net.now c.requires.roads c.args.clock c.args.own.now even c.args.mouths.now c.args.handed.now.items m r c.loop-n.n c.loop-n.own c.loop-n.mouths c.loop-n.handed.items (c.loop-n.invariant.released c.requires.roads even m r) (omega (arith, long, places))
