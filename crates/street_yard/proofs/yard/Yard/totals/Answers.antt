use Rattle.street_yard.proofs.Totals.{totals-seen}
use Rattle.street_yard.proofs.Fields.{IsWhole-seen}
use Rattle.street_yard.specs.Prelude.{IsWhole}
use Rattle.std.proofs.Common.{subst}
use Rattle.street_yard.proofs.yard.Yard.totals.Goals as goal

pub returns-clause-totals : goal.returns-clause-totals
returns-clause-totals c = totals-seen c.self.inside c.args.self.now c.self.invariant c.self.view_is c.totals.result c.totals.ensures

pub returns-clause-whole : goal.returns-clause-whole
returns-clause-whole c = subst IsWhole c.self.view_is (IsWhole-seen c.self.inside c.self.invariant)
