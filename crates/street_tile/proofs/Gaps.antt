-- From one lane on which somebody is to the next: the lanes between them are left as they are.
use Rattle.std.proofs.Common.{ℕ, zero, suc, ◌+◌, ◌-◌, ◌<◌, ◌≤◌, subst, arith}

-- what holds at k, and at i + 1 for each i from k on and before j at which it holds, holds at j
pub over-gap : (P : ℕ → Type 0) (k j : ℕ) → k ≤ j → ((i : ℕ) → k ≤ i → i < j → P i → P (i + 1)) → P k → P j
over-gap P k j le step start = subst P (omega arith) (go (j - k) (omega arith))
  where
    go : (d : ℕ) → k + d ≤ j → P (k + d)
    go zero h = subst P (omega arith) start
    go (suc d) h = subst P (omega arith) (step (k + d) (omega arith) (omega arith) (go d (omega arith)))
