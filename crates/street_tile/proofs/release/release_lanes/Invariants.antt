use Rattle.std.proofs.Common.{◌≡◌, ◌+◌, ◌-◌, ◌≤◌, length, vec_len, vec_capacity}
use Rattle.street_base.specs.Prelude.{Traffic}
use Rattle.street_lanes.specs.Prelude.{Same}
use Rattle.street_tile.specs.Prelude.{IsRoads, IsReleasing}
use Rattle.street_tile.proofs.TileReleases.{IsReleased}
use Rattle.street_tile.proofs.release.release_lanes.Given as goal

abbrev pub invariant-loop-n : goal.invariant-loop-n
invariant-loop-n l = record {
  within : l.n ≤ length l.fn.own.lanes;
  same : Same l.fn.own l.own;
  room : l.fn.own.room ≤ l.own.room;
  left : vec_len l.handed + (length l.fn.own.places - l.n) ≤ vec_capacity l.handed;
  kept : vec_capacity l.fn.handed ≤ vec_capacity l.handed;
  released : (roads : IsRoads l.net) (even : length l.fn.own.lanes ≡ length l.fn.own.places) (m : Traffic) (r : IsReleasing l.net l.clock l.fn.own l.fn.mouths m) → IsReleased l.net roads l.clock l.fn.own even l.fn.mouths l.fn.handed.items m r l.n l.own l.mouths l.handed.items;
}

abbrev pub decreases-loop-n : goal.decreases-loop-n
decreases-loop-n l = length l.fn.own.lanes - l.n
