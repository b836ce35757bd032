use Rattle.std.proofs.Common.{sym}
use Rattle.street_yard.proofs.YardLemmas.{head-held}
use Rattle.street_node.proofs.release.front_to_go.Goals as goal

pub car-car-requires : goal.car-car-requires
car-car-requires c = head-held c.args.yard.now c.args.list.0 c.in_ok-key.key c.in_ok-key.ensures.whole (sym c.in_ok-key.ensures.front)
