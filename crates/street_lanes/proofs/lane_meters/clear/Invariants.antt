use Rattle.street_lanes.proofs.ClearedWatches.{IsCleared}
use Rattle.street_lanes.proofs.lane_meters.clear.Given as goal

abbrev pub invariant-loop-k : goal.invariant-loop-k
invariant-loop-k l = IsCleared l.meters l.k l.watches
