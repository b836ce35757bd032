use Rattle.street_node.specs.Prelude.{AreIn, HaveShortPlans}
use Rattle.street_part_tests.proofs.buffers.fill.Given as goal

-- the yard is as the next vehicle wants it
abbrev pub invariant-loop-next : goal.invariant-loop-next
invariant-loop-next g l = record {
  lists : AreIn l.yard l.buffers;
  plans : HaveShortPlans l.yard;
}
