use Rattle.street_lanes.specs.Prelude.{AreDue}
use Rattle.street_lanes.proofs.dues.find_dues.Given as goal

abbrev pub invariant-loop-group : goal.invariant-loop-group
invariant-loop-group l = AreDue l.yard l.lanes l.fn.due.items → AreDue l.yard l.lanes l.due.items
