-- The motion of one lane among those of a tile.
use Rattle.std.proofs.Common.{◌≡◌, ℕ, ◌<◌, List, [], ◌∷◌, length, map, get_or, Option, sym, ap, subst, ◌∙◌, All}
use Rattle.street_base.specs.declared.net.NetSpec.{NetSpec}
use Rattle.street_base.specs.declared.names.Place.{Place}
use Rattle.street_base.specs.Prelude.{SignalPlan, Traffic, LaneState, lane_at, drive_on, leaver_of, driven_lane}
use Rattle.street_rule.specs.Prelude.{Odds, watched, IsReady}
use Rattle.street_gap.specs.declared.closures.Stretch.{Stretch}
use Rattle.street_gap.specs.Prelude.{IsWithin}
use Rattle.street_rule.specs.declared.watch.Watch.{Watch}
use Rattle.street_yard.specs.Prelude.{Yard, IsLane as IsLaneOn}
use Rattle.street_lanes.specs.declared.lanes.Extent.{Extent}
use Rattle.street_lanes.specs.Prelude.{LaneView, LaneStands, IsLaneOf, Lanes, lane_of, place_at, cells_list, buffer_list, lane_seen, IsStepOf, cells_on, arrived_car, MovesLane, DrivesAt}
use Rattle.street_lanes.specs.declared.motion.ArrivedCar.{ArrivedCar}
use Rattle.street_lanes.specs.Lanes.{IsOf}
use Rattle.street_lanes.specs.Inside.{view_of, IsLaidOut}
use Rattle.street_lanes.proofs.Frames.{lanes-count, with-cells, with-buffer, frame-others, frame-same, frame-sound}
use Rattle.street_lanes.proofs.Extents.{place-is, place-on, kept-is, falls-on, closed-on, falls-again, cells-seen}

module _ {x : Lanes} {y : Yard} {closures : List (List Stretch)} {extents : List Extent} {extent : Extent} {closed : List Stretch} {net : NetSpec} (odds : Odds) (n : ℕ)
    (view_is : view_of y closures extents odds ≡ x) (sound : IsLaidOut y closures extents) (listed : n < length x.lanes) (of : IsOf net x) (extent_is : extent ≡ get_or extents n extent) (closed_is : closed ≡ get_or closures n closed) where
  abbrev p : Place
  p = extent.at

  abbrev seen : Lanes
  seen = view_of y closures extents odds

  within : n < length extents
  within = rw (← lanes-count y closures extents) (subst (λ (v : Lanes). n < length v.lanes) (sym view_is) listed)

  of_seen : IsOf net seen
  of_seen = subst (IsOf net) (sym view_is) of

  pub link-there : p.link < length net.links
  link-there = (place-on closures extents odds n within extent closed extent_is closed_is net y of_seen sound).0

  pub lane-there : IsLaneOn y (cells_list n) (cells_on net p)
  lane-there = falls-on closures extents odds n within extent closed extent_is closed_is net y of_seen sound

  pub closed-there : IsWithin closed (cells_on net p)
  closed-there = closed-on closures extents odds n within extent closed extent_is closed_is net y of_seen sound

  pub watches-there : (ws : List Watch) → All (IsReady (length (lane_of x n).track.cells)) ws → All (IsReady (cells_on net p)) ws
  watches-there ws ready =
      subst (λ (k : ℕ). All (IsReady k) ws)
      (ap (λ (v : Lanes). length (lane_of v n).track.cells) (sym view_is) ∙ cells-seen closures extents odds n within extent closed extent_is closed_is net y of_seen sound) ready

  module _ (new : Yard) (dice : Odds) (same_dice : dice ≡ odds) (signal : Option SignalPlan) (step : ℕ) (told : Option ArrivedCar) (before after : List Watch) (moves : MovesLane net signal step p closed n y new told before after) where
    pub moved-sound : IsLaidOut new closures extents
    moved-sound = frame-sound y new closures extents odds n (cells_list n ∷ buffer_list n ∷ []) sound within (with-cells n, (with-buffer n, tt)) moves.touches moves.none_loose (falls-again closures extents odds n within extent closed extent_is closed_is net y of_seen sound new moves.lane)

    place-here : place_at seen n ≡ p
    place-here = place-is closures extents odds n within extent closed extent_is closed_is net y of_seen sound

    -- it stands for a lane just where its lists do
    listed-as : (now : Yard) (s : LaneState) → LaneStands (lane_of (view_of now closures extents odds) n) s → IsLaneOf (lane_seen now closed (cells_on net p) n) s
    unfolding LaneStands
    listed-as now s stands = subst (λ (l : LaneView). IsLaneOf l s) (kept-is closures extents odds n within extent closed extent_is closed_is net y of_seen sound now) stands

    stands-as : (now : Yard) (s : LaneState) → IsLaneOf (lane_seen now closed (cells_on net p) n) s → LaneStands (lane_of (view_of now closures extents odds) n) s
    unfolding LaneStands
    stands-as now s stands = subst (λ (l : LaneView). IsLaneOf l s) (sym (kept-is closures extents odds n within extent closed extent_is closed_is net y of_seen sound now)) stands

    moved-seen : DrivesAt net signal step n seen (view_of new closures extents odds) told before after
    moved-seen = record {
      same = frame-same y new closures extents odds n (cells_list n ∷ buffer_list n ∷ []) sound within (with-cells n, (with-buffer n, tt)) moves.touches moves.none_loose;
      others = frame-others y new closures extents odds n (cells_list n ∷ buffer_list n ∷ []) sound within (with-cells n, (with-buffer n, tt)) moves.touches moves.none_loose;
      room = moves.room;
      goes = subst (λ (q : Place). (m : Traffic) → IsStepOf net signal step q m → LaneStands (lane_of seen n) (lane_at m q) → LaneStands (lane_of (view_of new closures extents odds) n) (driven_lane m q (lane_at m q))) (sym place-here)
          (λ m now stands. stands-as new (driven_lane m p (lane_at m p)) (moves.goes m now (listed-as y (lane_at m p) stands)));
      arrived = subst (λ (q : Place). (m : Traffic) → IsStepOf net signal step q m → LaneStands (lane_of seen n) (lane_at m q) → told ≡ arrived_car (leaver_of m q)) (sym place-here)
          (λ m now stands. moves.arrived m now (listed-as y (lane_at m p) stands));
      watched = subst (λ (q : Place). (m : Traffic) → IsStepOf net signal step q m → LaneStands (lane_of seen n) (lane_at m q) → after ≡ map (watched (drive_on m q) (lane_at m q).track) before) (sym place-here)
          (λ m now stands. moves.watched m now (listed-as y (lane_at m p) stands));
    }

    pub DrivesAt-moved : DrivesAt net signal step n x (view_of new closures extents dice) told before after
    DrivesAt-moved =
        subst (λ (v : Lanes). DrivesAt net signal step n v (view_of new closures extents dice) told before after) view_is
        (subst (λ (d : Odds). DrivesAt net signal step n seen (view_of new closures extents d) told before after) (sym same_dice) moved-seen)
