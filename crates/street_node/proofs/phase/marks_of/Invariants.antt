use Rattle.std.proofs.Common.{take}
use Rattle.street_node.specs.Prelude.{HasMarks}
use Rattle.street_node.proofs.phase.marks_of.Given as goal

abbrev pub invariant-loop-green : goal.invariant-loop-green
invariant-loop-green l = HasMarks l.marks (take l.green-index l.greens)
