use Rattle.street_yard.proofs.YardLemmas.{left}
use Rattle.street_gap.proofs.PositionSearch.{IsSeek}
use Rattle.street_gap.proofs.sight.last_above.Given as goal

abbrev pub invariant-loop-cursor : goal.invariant-loop-cursor
invariant-loop-cursor l = IsSeek l.yard l.fn.list.0 l.cell l.above l.cursor

abbrev pub decreases-loop-cursor : goal.decreases-loop-cursor
decreases-loop-cursor l = left l.yard l.fn.list.0 l.cursor
