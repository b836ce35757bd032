use Rattle.std.proofs.Common.{ℕ, ◌<◌, ◌≤◌}
use Rattle.street_lanes.specs.Prelude.{IsFirstDue}
use Rattle.street_lanes.proofs.dues.least_depart.Given as goal

abbrev pub invariant-loop-n : goal.invariant-loop-n
invariant-loop-n l = (k : ℕ) → l.first ≤ k → k < l.n → IsFirstDue l.yard k l.least
