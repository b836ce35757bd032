use Rattle.std.proofs.Common.{None, subst}
use Rattle.street_lanes.specs.Prelude.{IsSought}
use Rattle.street_lanes.proofs.LaneWithout.{found-last}
use Rattle.street_lanes.proofs.search.seek_on_lane.Goals as goal

pub returns-clause-found : goal.returns-clause-found
returns-clause-found c = found-last c.args.yard.now c.args.lane c.args.number c.waiting_list.result.0 c.seek-3.result c.waiting_list.ensures
    (subst (λ l. IsSought c.args.yard.now l c.args.number None) c.cells_list.ensures c.in_default.ensures.sought)
    (subst (λ l. IsSought c.args.yard.now l c.args.number None) c.buffer_list.ensures c.in_default-seek.ensures.sought)
    c.seek-3.ensures.sought
