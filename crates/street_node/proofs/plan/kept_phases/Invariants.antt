use Rattle.std.proofs.Common.{◌≡◌, ℕ, ◌<◌, length, get_or}
use Rattle.street_base.specs.declared.command.PhaseSpec.{PhaseSpec}
use Rattle.street_base.specs.Prelude.{Phase, phase_of_spec}
use Rattle.street_node.specs.Prelude.{IsSamePhase}
use Rattle.street_node.proofs.plan.kept_phases.Given as goal

abbrev pub invariant-loop-phase : goal.invariant-loop-phase
invariant-loop-phase l = record {
  count : length l.kept.items ≡ l.phase-index;
  same : (k : ℕ) (d : Phase) (e : PhaseSpec) → k < l.phase-index → IsSamePhase (get_or l.kept.items k d) (phase_of_spec l.net (get_or l.phases k e));
}
