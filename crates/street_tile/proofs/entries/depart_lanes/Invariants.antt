use Rattle.std.proofs.Common.{◌≤◌, ◌-◌, length}
use Rattle.street_lanes.specs.Prelude.{Same}
use Rattle.street_tile.proofs.DepartedLanes.{DepartedTo}
use Rattle.street_tile.proofs.entries.depart_lanes.Given as goal

abbrev pub invariant-loop-n : goal.invariant-loop-n
invariant-loop-n l = record {
  within : l.n ≤ length l.fn.own.lanes;
  same : Same l.fn.own l.own;
  done : DepartedTo l.clock l.fn.own l.n l.own;
}

abbrev pub decreases-loop-n : goal.decreases-loop-n
decreases-loop-n l = length l.fn.own.lanes - l.n
