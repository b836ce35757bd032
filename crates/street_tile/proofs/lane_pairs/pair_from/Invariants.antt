use Rattle.std.proofs.Common.{ℕ, ◌<◌, ◌≤◌}
use Rattle.street_tile.specs.Prelude.{BeginsNoPair}
use Rattle.street_tile.proofs.lane_pairs.pair_from.Given as goal

abbrev pub invariant-loop-n : goal.invariant-loop-n
invariant-loop-n l = (k : ℕ) → l.from ≤ k → k < l.n → BeginsNoPair l.own k
