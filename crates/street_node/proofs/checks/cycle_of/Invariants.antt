use Rattle.std.proofs.Common.{◌≡◌, ◌*◌, ◌≤◌, take, sum_by}
use Rattle.street_base.specs.declared.command.PhaseSpec.{PhaseSpec}
use Rattle.street_node.proofs.checks.cycle_of.Given as goal

abbrev pub invariant-loop-phase : goal.invariant-loop-phase
invariant-loop-phase l = record {
  cycle : l.cycle ≡ sum_by (λ (p : PhaseSpec). p.duration) (take l.phase-index l.phases);
  small : l.cycle ≤ 600 * l.phase-index;
}
