use Rattle.std.proofs.Common.{rules, arith}
use Rattle.street_desk.proofs.Steps.{looks}
use Rattle.street_desk.proofs.desk.Desk.look.Goals as goal

pub load-requires : goal.load-requires
load-requires g c = let one = c.self.invariant.2 in (search rules, omega arith, looks _ _ _ _ _)
