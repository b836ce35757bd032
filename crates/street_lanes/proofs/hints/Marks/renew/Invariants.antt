use Rattle.street_yard.specs.Prelude.{IsOnList}
use Rattle.street_yard.proofs.YardLemmas.{left}
use Rattle.street_lanes.proofs.hints.Marks.renew.Given as goal

abbrev pub invariant-loop-cursor : goal.invariant-loop-cursor
invariant-loop-cursor l = IsOnList l.yard l.fn.list.0 l.cursor

abbrev pub decreases-loop-cursor : goal.decreases-loop-cursor
decreases-loop-cursor l = left l.yard l.fn.list.0 l.cursor
