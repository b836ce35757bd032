use Rattle.street_yard.proofs.YardLemmas.{left}
use Rattle.street_lanes.proofs.Entries.{IsTold}
use Rattle.street_lanes.proofs.lane_reply.entries.Given as goal

abbrev pub invariant-loop-cursor : goal.invariant-loop-cursor
invariant-loop-cursor g l = IsTold l.yard l.fn.list.0 g.E.CarEntry.shown l.cursor l.entries.items

abbrev pub decreases-loop-cursor : goal.decreases-loop-cursor
decreases-loop-cursor g l = left l.yard l.fn.list.0 l.cursor
