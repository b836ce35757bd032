use Rattle.std.proofs.Common.{◌<◌, ◌≤◌}
use Rattle.street_base.specs.Prelude.{most_workers}
use Rattle.street_engine.proofs.streets.Streets.threads_that_stay.Given as goal

abbrev pub invariant-loop-threads : goal.invariant-loop-threads
invariant-loop-threads g l = (0 < l.best) × (l.best ≤ most_workers)
