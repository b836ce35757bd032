use Rattle.street_base.specs.Prelude.{is_bad_phase}
use Rattle.street_net.proofs.FirstBad.{NoneBad}
use Rattle.street_node.proofs.checks.phases_fault.Given as goal

abbrev pub invariant-loop-at : goal.invariant-loop-at
invariant-loop-at l = NoneBad (is_bad_phase l.net l.node) l.phases l.at
