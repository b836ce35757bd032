use Rattle.std.proofs.Common.{arith}
use Rattle.street_lanes.proofs.ClearedWatches.{cleared-all}
use Rattle.street_lanes.proofs.lane_meters.clear.Goals as goal

pub returns : goal.returns
returns c = cleared-all c.args.meters.now c.loop-k.k c.loop-k.watches c.loop-k.invariant (omega arith)
