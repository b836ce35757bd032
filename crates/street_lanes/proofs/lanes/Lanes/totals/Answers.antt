use Rattle.street_lanes.proofs.LaneCounts.{cells-summed, buffers-summed, waiting-summed}
use Rattle.street_lanes.proofs.lanes.Lanes.totals.Goals as goal

pub returns-clause-cells : goal.returns-clause-cells
returns-clause-cells c m stand = cells-summed c.self.inside c.args.self.now c.self.view_is c.self.invariant.laid c.totals-totals.ensures.whole m stand c.totals-totals.result c.totals-totals.ensures.totals

pub returns-clause-buffers : goal.returns-clause-buffers
returns-clause-buffers c m stand = buffers-summed c.self.inside c.args.self.now c.self.view_is c.self.invariant.laid c.totals-totals.ensures.whole m stand c.totals-totals.result c.totals-totals.ensures.totals

pub returns-clause-waiting : goal.returns-clause-waiting
returns-clause-waiting c m stand = waiting-summed c.self.inside c.args.self.now c.self.view_is c.self.invariant.laid c.totals-totals.ensures.whole m stand c.totals-totals.result c.totals-totals.ensures.totals
