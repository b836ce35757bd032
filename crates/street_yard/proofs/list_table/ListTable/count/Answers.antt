use Rattle.std.proofs.Common.{ap, arith}
use Rattle.street_yard.specs.declared.list_table.ListRow.{ListRow}
use Rattle.street_yard.proofs.Joined.{rests-below, rest-read}
use Rattle.street_yard.proofs.list_table.ListTable.count.Goals as goal

pub index-requires : goal.index-requires
index-requires c = let lt = rests-below c.self.inside.fronts.items c.self.inside.rests.items c.args.self.now c.self.invariant.even c.self.view_is c.args.list c.requires in omega arith

pub returns : goal.returns
returns c = ap (λ (e : ListRow). e.count) (rest-read c.self.inside.fronts.items c.self.inside.rests.items c.args.self.now c.self.invariant.even c.self.view_is c.args.list c.requires c.index.result.now c.index.ensures)
