use Rattle.std.proofs.Common.{ℕ, ◌-◌, ◌<◌, ◌≤◌, length}
use Rattle.street_lanes.specs.Prelude.{StaysAt, lane_of}
use Rattle.street_lanes.proofs.lanes.Lanes.next_to_depart.Given as goal

abbrev pub invariant-loop-n : goal.invariant-loop-n
invariant-loop-n l = record {
  not_before : l.lane ≤ l.n;
  within : l.n ≤ length l.self.lanes;
  passed : (k : ℕ) → l.lane ≤ k → k < l.n → StaysAt l.clock (lane_of l.self k);
}

abbrev pub decreases-loop-n : goal.decreases-loop-n
decreases-loop-n l = length l.self.lanes - l.n
