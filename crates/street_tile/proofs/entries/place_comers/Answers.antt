use Rattle.std.proofs.Common.{◌≡◌, ◌+◌, ◌<◌, ◌≤◌, ℕ, List, length, map, get_or, ap, ◌∙◌, sym, subst, refl, arith, Option, None, Some, IsSome}
use Rattle.std.proofs.lemmas.List.{get_or-map}
use Rattle.street_base.specs.declared.names.Place.{Place}
use Rattle.street_base.specs.Prelude.{Vehicle, Traffic, lane_at, with_entry}
use Rattle.street_lanes.specs.Prelude.{LaneStands, Lanes, LanesStand, lane_of, place_at}
use Rattle.street_tile.specs.Prelude.{Transfer, placed_lane, vehicle_in}
use Rattle.street_tile.proofs.Slots.{TakenTo, taken-start, taken-next, taken-over, taken-all}
use Rattle.street_tile.proofs.Gaps.{over-gap}
use Rattle.street_tile.proofs.SameLanes.{LanesDone, same-none, same-then, place-is, lanes-start, lanes-next, lanes-kept, lanes-here, lanes-go}
use Rattle.street_tile.proofs.entries.place_comers.Goals as goal

module _ (own : Lanes) (came : List (Option Transfer)) (even : length came ≡ length own.places) (long : length own.lanes ≡ length own.places) (m : Traffic) (entry : Place → Option Vehicle) (stand : LanesStand own.places own.lanes m) (coming : map vehicle_in came ≡ map entry own.places) where
  -- who comes to a lane is who enters there
  is_entry : (j : ℕ) → j < length own.places → vehicle_in (get_or came j None) ≡ entry (place_at own j)
  is_entry j h =
      sym (get_or-map vehicle_in came j None None (omega (arith, even)))
      ∙ ap (λ (os : List (Option Vehicle)). get_or os j None) coming
      ∙ get_or-map entry own.places j (record { link = 0; lane = 0 }) None h

  -- the lanes between two, to which nobody comes, stand as they did
  placed-over : (k j : ℕ) (now : Lanes) → k ≤ j → j ≤ length own.places → ((i : ℕ) → k ≤ i → i < j → get_or came i None ≡ None) → LanesDone (placed_lane entry) m own k now → LanesDone (placed_lane entry) m own j now
  placed-over k j now le all nobody = over-gap (λ i. LanesDone (placed_lane entry) m own i now) k j le (λ i above below before.
      let h : i < length own.places = omega arith in
      let s = lane_at m (place_at own i) in
      let none : entry (place_at own i) ≡ None = sym (is_entry i h) ∙ ap vehicle_in (nobody i above below) in
      lanes-kept (placed_lane entry) m own i now before (subst (λ (v : Option Vehicle). LaneStands (lane_of now i) (record s { track = with_entry v s.track })) (sym none) (lanes-here (placed_lane entry) m own i now before stand h (omega (arith, long)))))

some-entry : (o : Option Transfer) (v : Option Vehicle) → vehicle_in o ≡ v → IsSome o → IsSome v
some-entry None v e some = cc
some-entry (Some h) v e some = rw (← e) refl

pub loop-n-init : goal.loop-n-init
loop-n-init c =
    let own = c.args.own.now in
    let next = c.next-n.ensures in
    record {
      within = omega (arith, next.within, c.requires.even);
      same = same-none own;
      room = omega (arith, c.requires.room);
      done = λ m entry stand coming free. placed-over own c.args.coming.now c.requires.even (omega arith) m entry stand coming 0 c.next-n.result own next.not_before (omega (arith, next.within, c.requires.even)) next.passed (lanes-start (placed_lane entry) m own);
      taken = taken-over c.args.coming.now 0 c.next-n.result c.args.coming.now next.not_before next.passed (taken-start c.args.coming.now);
    }

pub loop-n-preserved : goal.loop-n-preserved
loop-n-preserved c =
    let old = c.args.own.now in
    let next = c.next-n-in-loop-n.ensures in
    let before = c.loop-n.invariant in
    let same = same-then old c.loop-n.own c.place_comer.new.own before.same c.place_comer.ensures.same in
    let took = subst (TakenTo c.args.coming.now (c.loop-n.n + 1)) (sym c.take.ensures.nobody) (taken-next c.args.coming.now c.loop-n.n c.loop-n.coming before.taken) in
    let came = c.take.ensures.taken ∙ before.taken.rest c.loop-n.n (omega arith) in
    let long : length old.lanes ≡ length old.places = omega arith in
    let h : c.loop-n.n < length old.places = omega arith in
    record {
      within = omega (arith, next.within, took.long, c.requires.even);
      same = same;
      room = omega (arith, before.room, c.place_comer.ensures.room, next.not_before);
      done = λ m entry stand coming free.
          let done = before.done m entry stand coming free in
          let here = lanes-here (placed_lane entry) m old c.loop-n.n c.loop-n.own done stand h (omega (arith, long)) in
          let is : vehicle_in c.take.result ≡ entry (place_at old c.loop-n.n) = ap vehicle_in came ∙ is_entry old c.args.coming.now c.requires.even long m entry stand coming c.loop-n.n h in
          let goes = c.place_comer.ensures.stands (lane_at m (place_at old c.loop-n.n)) here (λ some. free c.loop-n.n (place_at old c.loop-n.n) (place-is old c.loop-n.n h) (some-entry c.take.result (entry (place_at old c.loop-n.n)) is some)) in
          let after = lanes-next (placed_lane entry) m old c.loop-n.n c.loop-n.own c.place_comer.new.own done c.place_comer.ensures.same c.place_comer.ensures.others (rw is at goes) in
          placed-over old c.args.coming.now c.requires.even long m entry stand coming (c.loop-n.n + 1) c.next-n-in-loop-n.result c.place_comer.new.own next.not_before (omega (arith, next.within, took.long, c.requires.even)) (λ j low high. sym (took.rest j low) ∙ next.passed j low high) after;
      taken = taken-over c.args.coming.now (c.loop-n.n + 1) c.next-n-in-loop-n.result c.take.new.self next.not_before next.passed took;
    }

pub returns-clause-none : goal.returns-clause-none
returns-clause-none c = taken-all c.args.coming.now c.loop-n.n c.loop-n.coming (omega (arith, c.requires.even)) c.loop-n.invariant.taken

pub returns-clause-lanes : goal.returns-clause-lanes
returns-clause-lanes c = λ m entry stand coming free.
    lanes-go (placed_lane entry) m c.args.own.now c.loop-n.n c.loop-n.own (c.loop-n.invariant.done m entry stand coming free) (omega arith)
