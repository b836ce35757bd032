use Rattle.street_lanes.proofs.PlaceFor.{on-front, behind-on, behind-fewer}
use Rattle.street_lanes.proofs.hints.Marks.renew.Goals as goal

pub loop-cursor-init : goal.loop-cursor-init
loop-cursor-init c = on-front c.args.yard.now c.args.list.0 _ c.list_front-cursor.ensures.whole c.list_front-cursor.ensures.front

pub loop-cursor-smaller : goal.loop-cursor-smaller
loop-cursor-smaller c = behind-fewer c.args.yard.now c.args.list.0 _ c.in-Some.key c.list_front-cursor.ensures.whole c.loop-cursor.invariant c.in-Some.is _ c.behind-cursor.ensures.behind

pub loop-cursor-preserved : goal.loop-cursor-preserved
loop-cursor-preserved c = behind-on c.args.yard.now c.args.list.0 _ c.in-Some.key c.list_front-cursor.ensures.whole c.loop-cursor.invariant c.in-Some.is _ c.behind-cursor.ensures.behind
