use Rattle.std.proofs.Common.{◌-◌, arith, vec_capacity}
use Rattle.std.proofs.lemmas.List.Sorted.{IsPermutation-swap}
use Rattle.std.specs.List.Sorted.{IsPermutation}
use Rattle.street_yard.proofs.Spare.{reordered-sound}
use Rattle.street_yard.proofs.yard.Yard.use_next.Goals as goal

moved : (c : goal.After-swap) → IsPermutation c.self.inside.spare.items c.swap.new.self.items
moved c =
    let ok = c.self.inside.spare.ok in
    let within = c.if-at-count.true in
    let count = c.len-count.ensures in
    IsPermutation-swap c.self.inside.spare.items c.swap.new.self.items c.args.at (c.len-count.result - 1) (omega arith) (omega arith) c.swap.ensures.items

pub invariant_of-self : goal.invariant_of-self
invariant_of-self c = reordered-sound c.self.inside c.self.invariant c.swap.new.self.items (moved c) (vec_capacity c.swap.new.self) (let e = c.swap.ensures.capacity in omega arith)
