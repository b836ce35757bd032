use Rattle.std.proofs.Common.{arith}
use Rattle.street_yard.proofs.Joined.{fronts-below, rests-below, both-read}
use Rattle.street_yard.proofs.list_table.ListTable.get.Goals as goal

pub index-rest-requires : goal.index-rest-requires
index-rest-requires c = let lt = rests-below c.self.inside.fronts.items c.self.inside.rests.items c.args.self.now c.self.invariant.even c.self.view_is c.args.list c.requires in omega arith

pub index-requires : goal.index-requires
index-requires c = let lt = fronts-below c.self.inside.fronts.items c.self.inside.rests.items c.args.self.now c.self.invariant.even c.self.view_is c.args.list c.requires in omega arith

pub returns : goal.returns
returns c = both-read c.self.inside.fronts.items c.self.inside.rests.items c.args.self.now c.self.invariant.even c.self.view_is c.args.list c.requires c.index.result.now c.index-rest.result.now _ c.index.ensures c.index-rest.ensures
