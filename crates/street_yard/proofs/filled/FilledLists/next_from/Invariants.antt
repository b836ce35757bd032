use Rattle.std.proofs.Common.{◌≡◌, ℕ, ◌*◌, ◌<◌, ◌≤◌, false}
use Rattle.street_yard.specs.Kinds.{class_of}
use Rattle.street_yard.specs.Bits.{has_bit}
use Rattle.street_yard.proofs.filled.FilledLists.next_from.Given as goal

abbrev pub invariant-loop-at : goal.invariant-loop-at
invariant-loop-at l = (n : ℕ) → 64 * l.group ≤ n → n < 64 * l.at → has_bit l.self (class_of l.fn.kind) n ≡ false
