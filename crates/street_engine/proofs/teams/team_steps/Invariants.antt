use Rattle.std.proofs.Common.{Some, slice_get}
use Rattle.std.specs.Option.{option_map_or}
use Rattle.street_engine.proofs.teams.team_steps.Given as goal

-- the network, and the locks that were made
abbrev pub ghosts-steps_with_locks-K-TeamNetwork : goal.ghosts-steps_with_locks-K-TeamNetwork
ghosts-steps_with_locks-K-TeamNetwork g a = record { net = a.net.now; lock = λ k. option_map_or (λ l. l.id) (slice_get a.locks.now k) 0 }

-- the streets as the shift begins
abbrev pub ghosts-steps_with_locks-B-ShiftStart : goal.ghosts-steps_with_locks-B-ShiftStart
ghosts-steps_with_locks-B-ShiftStart g a = record { begun = a.streets; most = a.shift.steps; sink = Some a.sink }
