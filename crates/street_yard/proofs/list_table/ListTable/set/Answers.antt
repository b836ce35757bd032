use Rattle.std.proofs.Common.{refl, arith}
use Rattle.street_yard.proofs.Joined.{fronts-below, rests-below, both-written}
use Rattle.street_yard.proofs.Totals.{filled-within, filled-at, count-part, total-fits, listed-set}
use Rattle.street_yard.proofs.list_table.ListTable.set.Goals as goal

pub index-requires : goal.index-requires
index-requires c = let lt = rests-below c.self.inside.fronts.items c.self.inside.rests.items c.args.self.now c.self.invariant.even c.self.view_is c.args.list c.requires in omega arith

pub overflow_sub-others : goal.overflow_sub-others
overflow_sub-others c =
    let within = rests-below c.self.inside.fronts.items c.self.inside.rests.items c.args.self.now c.self.invariant.even c.self.view_is c.args.list c.requires in
    let part = count-part c.self.inside.fronts.items c.self.inside.rests.items c.self.inside.totals c.self.inside.filled c.self.invariant c.args.list within c.index.result.now c.index.ensures _ refl in
    omega (arith, part, c.from.ensures)

pub overflow_add-self : goal.overflow_add-self
overflow_add-self c =
    let within = rests-below c.self.inside.fronts.items c.self.inside.rests.items c.args.self.now c.self.invariant.even c.self.view_is c.args.list c.requires in
    let fits = total-fits c.self.inside.fronts.items c.self.inside.rests.items c.self.inside.totals c.self.inside.filled c.self.invariant c.args.list within c.index.result.now c.index.ensures _ refl c.args.row.front (record { back = c.args.row.back; count = c.args.row.count }) (omega arith) in
    omega (arith, fits, c.from.ensures, c.from-2.ensures)

pub recount-requires-clause-within : goal.recount-requires-clause-within
recount-requires-clause-within c =
    let within = rests-below c.self.inside.fronts.items c.self.inside.rests.items c.args.self.now c.self.invariant.even c.self.view_is c.args.list c.requires in
    filled-within c.self.inside.fronts.items c.self.inside.rests.items c.self.inside.totals c.self.inside.filled c.self.invariant c.args.list within

pub recount-requires-clause-before : goal.recount-requires-clause-before
recount-requires-clause-before c =
    let within = rests-below c.self.inside.fronts.items c.self.inside.rests.items c.args.self.now c.self.invariant.even c.self.view_is c.args.list c.requires in
    filled-at c.self.inside.fronts.items c.self.inside.rests.items c.self.inside.totals c.self.inside.filled c.self.invariant c.args.list within c.index.result.now c.index.ensures

pub invariant_of-self : goal.invariant_of-self
invariant_of-self c =
    let within = rests-below c.self.inside.fronts.items c.self.inside.rests.items c.args.self.now c.self.invariant.even c.self.view_is c.args.list c.requires in
    rw (c.from.ensures, c.from-2.ensures, c.recount.ensures) (listed-set c.self.inside.fronts.items c.self.inside.rests.items c.self.inside.totals c.self.inside.filled c.self.invariant c.args.list within c.index.result.now c.index.ensures _ refl c.args.row.front (record { back = c.args.row.back; count = c.args.row.count }) (omega arith))

pub index_mut-requires : goal.index_mut-requires
index_mut-requires c = let lt = fronts-below c.self.inside.fronts.items c.self.inside.rests.items c.args.self.now c.self.invariant.even c.self.view_is c.args.list c.requires in omega arith

pub index_mut-requires-2 : goal.index_mut-requires-2
index_mut-requires-2 c = let lt = rests-below c.self.inside.fronts.items c.self.inside.rests.items c.args.self.now c.self.invariant.even c.self.view_is c.args.list c.requires in omega arith

pub returns : goal.returns
returns c = both-written c.self.inside.fronts.items c.self.inside.rests.items c.args.self.now c.self.invariant.even c.self.view_is c.args.list c.requires c.args.row
