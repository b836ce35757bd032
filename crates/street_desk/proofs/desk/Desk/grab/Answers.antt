use Rattle.std.proofs.Common.{rules, ℕ, ◌/◌, ◌+◌, arith, refl}
use Rattle.street_desk.proofs.Steps.{grabs}
use Rattle.street_desk.proofs.desk.Desk.grab.Goals as goal

pub compare_exchange-requires : goal.compare_exchange-requires
compare_exchange-requires g c =
    let one = c.self.invariant.2 in
    let even = c.requires.even.0 in
    let at : ℕ = c.args.at in
    (search rules, omega arith, grabs _ _ _ _ _ at (at + 1) (at / 2) c.requires.rests.0 c.requires.rests.1 (omega arith) refl)
