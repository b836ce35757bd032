use Rattle.street_gap.proofs.Sights.{obstacle-open}
use Rattle.street_gap.proofs.sight.obstacle_ahead.Goals as goal

pub returns-else-has_closed : goal.returns-else-has_closed
returns-else-has_closed c count within = obstacle-open count c.args.closures.now c.args.ahead c.args.cell (c.requires c.if-has_closed.false) within
