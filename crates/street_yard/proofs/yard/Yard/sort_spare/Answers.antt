use Rattle.std.proofs.Common.{arith, vec_capacity}
use Rattle.street_yard.proofs.Spare.{reordered-sound}
use Rattle.street_yard.proofs.yard.Yard.sort_spare.Goals as goal

pub invariant_of-self : goal.invariant_of-self
invariant_of-self c = reordered-sound c.self.inside c.self.invariant c.sort_unstable.new.self.items c.sort_unstable.ensures.permutation (vec_capacity c.sort_unstable.new.self) (let e = c.sort_unstable.ensures.capacity in omega arith)
