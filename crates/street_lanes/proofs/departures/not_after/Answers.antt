use Rattle.street_lanes.proofs.PlaceFor.{ahead-on, ahead-fewer}
use Rattle.street_lanes.proofs.departures.not_after.Goals as goal

pub loop-cursor-smaller : goal.loop-cursor-smaller
loop-cursor-smaller c = ahead-fewer c.args.yard.now c.args.list.0 _ c.in-Some.key c.ahead-cursor.ensures.whole c.loop-cursor.invariant c.in-Some.is _ c.ahead-cursor.ensures.ahead

pub loop-cursor-preserved : goal.loop-cursor-preserved
loop-cursor-preserved c = ahead-on c.args.yard.now c.args.list.0 _ c.in-Some.key c.ahead-cursor.ensures.whole c.loop-cursor.invariant c.in-Some.is _ c.ahead-cursor.ensures.ahead
