use Rattle.std.proofs.Common.{◌≡◌, ℕ, ◌<◌, ◌≤◌, length, get_or}
use Rattle.street_tile.specs.Prelude.{BeginsNoPair}
use Rattle.street_tile.proofs.lane_pairs.next_pairs.Given as goal

abbrev pub invariant-loop-n : goal.invariant-loop-n
invariant-loop-n l = record {
  count : length l.pairs.items ≡ l.n;
  inside : l.next ≤ length l.own;
  ahead : (k : ℕ) → l.n ≤ k → k < l.next → BeginsNoPair l.own k;
  later : (n : ℕ) → n < l.n → n < get_or l.pairs.items n 0;
  within : (n : ℕ) → n < l.n → get_or l.pairs.items n 0 ≤ length l.own;
  none : (n k : ℕ) → n < l.n → n < k → k < get_or l.pairs.items n 0 → BeginsNoPair l.own k;
}
