use Rattle.std.proofs.Common.{subst}
use Rattle.street_yard.specs.Prelude.{IsWhole}
use Rattle.street_yard.proofs.Fields.{IsWhole-seen}
use Rattle.street_yard.proofs.yard.Yard.list_back.Goals as goal

pub returns-clause-whole : goal.returns-clause-whole
returns-clause-whole c = subst IsWhole c.self.view_is (IsWhole-seen c.self.inside c.self.invariant)
