use Rattle.std.proofs.Common.{◌≡◌, ◌+◌, length, vec_len}
use Rattle.street_runs.specs.Scripts.{AreOpened, ArePassesFrom}
use Rattle.street_runs.proofs.clients.open_scripts.Given as goal

abbrev pub invariant-loop-pass : goal.invariant-loop-pass
invariant-loop-pass g l = record {
  each : vec_len l.scripts + vec_len l.passes ≡ length l.names;
  passes : ArePassesFrom l.desk (length l.names) l.passes.items;
  scripts : AreOpened l.desk l.scripts.items;
}

abbrev pub decreases-loop-pass : goal.decreases-loop-pass
decreases-loop-pass g l = vec_len l.passes
