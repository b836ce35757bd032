use Rattle.std.proofs.Common.{arith}
use Rattle.street_yard.proofs.Joined.{fronts-below, front-read}
use Rattle.street_yard.proofs.list_table.ListTable.front.Goals as goal

pub index-requires : goal.index-requires
index-requires c = let lt = fronts-below c.self.inside.fronts.items c.self.inside.rests.items c.args.self.now c.self.invariant.even c.self.view_is c.args.list c.requires in omega arith

pub returns : goal.returns
returns c = front-read c.self.inside.fronts.items c.self.inside.rests.items c.args.self.now c.self.invariant.even c.self.view_is c.args.list c.requires c.index.result.now c.index.ensures
