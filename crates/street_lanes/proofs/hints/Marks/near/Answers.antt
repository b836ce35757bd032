use Rattle.street_lanes.proofs.PlaceFor.{on-back}
use Rattle.street_lanes.proofs.hints.Marks.near.Goals as goal

pub returns-then-ahead-len : goal.returns-then-ahead-len
returns-then-ahead-len c = on-back c.args.yard.now c.args.list.0 _ c.list_back.ensures.whole c.list_back.ensures.back

pub returns-then-stands_on : goal.returns-then-stands_on
returns-then-stands_on c = c.stands_on.ensures.whole.names _ _ (c.stands_on.ensures.stands c.if-stands_on.true).0
