use Rattle.std.proofs.Common.{◌≤◌, arith}
use Rattle.street_lanes.proofs.FirstDue.{due-found}
use Rattle.street_lanes.proofs.dues.find_dues.Goals as goal
use Rattle.street_lanes.proofs.dues.find_dues.Goals.{then-due_of-clock, else-due_of-clock}

pub loop-group-preserved : goal.loop-group-preserved
loop-group-preserved c = λ start. elim c.if-due_of-clock.branch [
  | then-due_of-clock w ↦ rw (w.due-is, w.set_due.ensures) (due-found c.args.yard.now c.args.lanes c.loop-group.due.items c.loop-group.group w.least_depart-least.result
      (λ n low high h. w.least_depart-least.ensures n low (omega (arith, high, h))) (c.loop-group.invariant start))
  | else-due_of-clock w ↦ rw w.due-is (c.loop-group.invariant start)
]
