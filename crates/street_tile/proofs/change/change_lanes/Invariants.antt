use Rattle.std.proofs.Common.{◌≡◌, ◌-◌, ◌≤◌, length}
use Rattle.street_base.specs.Prelude.{Traffic}
use Rattle.street_lanes.specs.Prelude.{Same, IsOn, LanesStand}
use Rattle.street_lanes.specs.Lanes.{IsOf}
use Rattle.street_tile.specs.Prelude.{IsRoads, ArePairs, BeginsLink}
use Rattle.street_tile.proofs.TileChanges.{ChangedTo}
use Rattle.street_tile.proofs.change.change_lanes.Given as goal

abbrev pub invariant-loop-n : goal.invariant-loop-n
invariant-loop-n l = record {
  within : l.n ≤ length l.fn.own.places;
  begins : BeginsLink l.fn.own l.n;
  same : Same l.fn.own l.own;
  room : l.fn.own.room ≤ l.own.room;
  done : (m : Traffic) (on : IsOn l.net m) (roads : IsRoads l.net) (of : IsOf l.net l.fn.own) (pairs : ArePairs l.net l.fn.own.places) (even : length l.fn.own.lanes ≡ length l.fn.own.places) (stand : LanesStand l.fn.own.places l.fn.own.lanes m) → m.clock ≡ l.clock → ChangedTo l.net m on roads l.fn.own of pairs even stand l.n l.own;
}

abbrev pub decreases-loop-n : goal.decreases-loop-n
decreases-loop-n l = length l.fn.own.places - l.n
