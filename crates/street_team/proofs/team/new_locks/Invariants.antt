use Rattle.std.proofs.Common.{◌≡◌, ◌≤◌, vec_len, vec_capacity}
use Rattle.street_team.proofs.team.new_locks.Given as goal

abbrev pub invariant-loop : goal.invariant-loop
invariant-loop g l = (vec_len l.locks ≡ l.counter) × (l.count ≤ vec_capacity l.locks)
