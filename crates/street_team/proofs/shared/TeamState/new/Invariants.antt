use Rattle.std.proofs.Common.{◌≡◌, ◌≤◌, vec_len, vec_capacity}
use Rattle.street_team.proofs.shared.TeamState.new.Given as goal

abbrev pub invariant-loop : goal.invariant-loop
invariant-loop g l = (vec_len l.mailboxes ≡ l.counter) × (l.count ≤ vec_capacity l.mailboxes)
