use Rattle.std.proofs.Common.{slice_get}
use Rattle.std.specs.Option.{option_map_or}
use Rattle.street_team.proofs.tests.add.Given as goal

-- the locks that were made, and the numbers
abbrev pub ghosts-add_by : goal.ghosts-add_by
ghosts-add_by g a = record { lock = λ k. option_map_or (λ l. l.id) (slice_get a.locks.now k) 0; begun = a.items.items }
