use Rattle.std.proofs.Common.{arith}
use Rattle.street_lanes.proofs.NextLane.{lanes-counted, next-of-kind}
use Rattle.street_lanes.proofs.lanes.Lanes.next_filled.Goals as goal

pub next_filled-requires : goal.next_filled-requires
next_filled-requires c = let counted = lanes-counted c.self.inside c.args.self.now c.self.view_is c.self.invariant.laid in omega arith

pub returns : goal.returns
returns c = next-of-kind c.self.inside c.args.self.now c.self.view_is c.self.invariant.laid c.next_filled.ensures.whole c.args.lane c.next_filled.result c.args.kind c.next_filled.ensures.next
