use Rattle.std.proofs.Common.{sym}
use Rattle.street_yard.proofs.YardLemmas.{head-held}
use Rattle.street_lanes.proofs.dues.least_depart.Goals as goal

pub step-requires : goal.step-requires
step-requires c = head-held c.args.yard.now c.waiting_list.result.0 c.in-Some.key c.in-Some.ensures.whole (sym c.in-Some.ensures.front)
