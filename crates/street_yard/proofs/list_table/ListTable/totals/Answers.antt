use Rattle.street_yard.proofs.Totals.{totals-are}
use Rattle.street_yard.proofs.list_table.ListTable.totals.Goals as goal

pub returns : goal.returns
returns c = totals-are c.self.inside.fronts.items c.self.inside.rests.items c.self.inside.totals c.self.inside.filled c.args.self.now c.self.invariant c.self.view_is
