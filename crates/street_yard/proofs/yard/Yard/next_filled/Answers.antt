use Rattle.std.proofs.Common.{subst}
use Rattle.street_yard.specs.Prelude.{class_of, IsWhole}
use Rattle.street_yard.proofs.Fields.{IsWhole-seen}
use Rattle.street_yard.proofs.NextFilled.{class-few, next-seen, lanes-within}
use Rattle.street_yard.proofs.yard.Yard.next_filled.Goals as goal

pub next_filled-requires : goal.next_filled-requires
next_filled-requires c = lanes-within c.self.inside c.self.invariant (class_of c.args.kind) (class-few c.args.kind) c.args.self.now c.self.view_is c.args.lane c.requires

pub returns-clause-next : goal.returns-clause-next
returns-clause-next c = next-seen c.self.inside c.self.invariant (class_of c.args.kind) (class-few c.args.kind) c.args.self.now c.self.view_is c.args.lane c.next_filled.result c.next_filled.ensures

pub returns-clause-whole : goal.returns-clause-whole
returns-clause-whole c = subst IsWhole c.self.view_is (IsWhole-seen c.self.inside c.self.invariant)
