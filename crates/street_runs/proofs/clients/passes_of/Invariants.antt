use Rattle.std.proofs.Common.{◌≡◌, ◌+◌, ◌-◌, vec_len}
use Rattle.street_runs.specs.Scripts.{ArePassesFrom, new_pass}
use Rattle.street_runs.proofs.clients.passes_of.Given as goal

abbrev pub invariant-loop-pass : goal.invariant-loop-pass
invariant-loop-pass l = record {
  pass : l.pass ≡ record (new_pass l.desk 0) { greatest = l.pass.greatest };
  left : l.pass.greatest + vec_len l.passes + 1 ≡ l.sessions;
  all : ArePassesFrom l.desk l.sessions l.passes.items;
}

abbrev pub decreases-loop-pass : goal.decreases-loop-pass
decreases-loop-pass l = l.sessions - vec_len l.passes
