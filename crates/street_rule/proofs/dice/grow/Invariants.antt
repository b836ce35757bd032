use Rattle.std.proofs.Common.{◌≡◌, ℕ, ◌++◌, replicate}
use Rattle.street_rule.proofs.dice.grow.Given as goal

abbrev pub invariant-loop : goal.invariant-loop
invariant-loop l = (n : ℕ) × (l.kept.items ≡ l.initial.kept.items ++ replicate n l.first)
