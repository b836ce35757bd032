use Rattle.street_yard.proofs.YardLemmas.{left}
use Rattle.street_lanes.proofs.Down.{IsDown}
use Rattle.street_lanes.proofs.lane_meters.covers.Given as goal

abbrev pub invariant-loop-cursor : goal.invariant-loop-cursor
invariant-loop-cursor l = IsDown l.yard l.fn.cells.0 l.cell l.cursor

abbrev pub decreases-loop-cursor : goal.decreases-loop-cursor
decreases-loop-cursor l = left l.yard l.fn.cells.0 l.cursor
