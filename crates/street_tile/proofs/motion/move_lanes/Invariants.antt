use Rattle.std.proofs.Common.{◌≡◌, ℕ, ◌+◌, ◌-◌, ◌<◌, ◌≤◌, length, map, take, vec_len, vec_capacity, ◌++◌, Some, false, filter_map, slice_get}
use Rattle.street_base.specs.declared.names.Place.{Place}
use Rattle.street_base.specs.Prelude.{Traffic, driven_lane, arrival, leaver_of}
use Rattle.street_lanes.specs.Prelude.{Same, LanesStand, watch_of}
use Rattle.street_record.specs.Rows.{arrival_at}
use Rattle.street_tile.specs.Prelude.{IsOfStep, KeepMeters, detectors_at}
use Rattle.street_tile.proofs.SameLanes.{LanesDone}
use Rattle.street_tile.proofs.ShownLanes.{EachMouth, IsFreeTo}
use Rattle.street_tile.proofs.motion.move_lanes.Given as goal

abbrev pub invariant-loop-n : goal.invariant-loop-n
invariant-loop-n l = record {
  within : l.n ≤ length l.fn.own.lanes;
  same : Same l.fn.own l.own;
  room : l.fn.own.room ≤ l.own.room;
  left : vec_len l.arrived + (length l.fn.own.places - l.n) ≤ vec_capacity l.arrived;
  capacity : vec_capacity l.fn.arrived ≤ vec_capacity l.arrived;
  done : (m : Traffic) → IsOfStep l.step m → LanesStand l.fn.own.places l.fn.own.lanes m → LanesDone (driven_lane m) m l.fn.own l.n l.own;
  arrived : (m : Traffic) → IsOfStep l.step m → LanesStand l.fn.own.places l.fn.own.lanes m → l.arrived.items ≡ l.fn.arrived.items ++ filter_map (λ p. arrival (leaver_of m p)) (take l.n l.fn.own.places);
  rows_room : vec_len l.left + (length l.fn.own.places - l.n) ≤ vec_capacity l.left;
  rows_capacity : vec_capacity l.fn.left ≤ vec_capacity l.left;
  rows : (m : Traffic) → IsOfStep l.step m → LanesStand l.fn.own.places l.fn.own.lanes m → l.left.items ≡ l.fn.left.items ++ filter_map (arrival_at m) (take l.n l.fn.own.places);
  wide : length l.mouths ≡ length l.fn.mouths;
  shown : EachMouth l.fn.own.places (IsFreeTo l.own l.n) l.mouths;
  detectors : KeepMeters l.fn.detectors l.detectors;
  bare : l.step.has_meters ≡ false → l.detectors ≡ l.fn.detectors;
  watched : (m : Traffic) → IsOfStep l.step m → LanesStand l.fn.own.places l.fn.own.lanes m → (k : ℕ) (p : Place) → k < l.n → slice_get l.fn.own.places k ≡ Some p → (detectors_at l.detectors k).watches ≡ map (watch_of m p) (detectors_at l.detectors k).meters;
}

abbrev pub decreases-loop-n : goal.decreases-loop-n
decreases-loop-n l = length l.fn.own.lanes - l.n
