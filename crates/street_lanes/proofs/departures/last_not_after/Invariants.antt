use Rattle.street_yard.proofs.YardLemmas.{left}
use Rattle.street_lanes.proofs.PlaceFor.{IsBetween}
use Rattle.street_lanes.proofs.departures.last_not_after.Given as goal

abbrev pub invariant-loop-cursor : goal.invariant-loop-cursor
invariant-loop-cursor l = IsBetween l.yard l.fn.list.0 l.car l.at l.cursor

abbrev pub decreases-loop-cursor : goal.decreases-loop-cursor
decreases-loop-cursor l = left l.yard l.fn.list.0 l.cursor
