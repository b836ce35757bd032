use Rattle.street_yard.proofs.YardLemmas.{left}
use Rattle.street_record.specs.Rows.{as_written}
use Rattle.street_lanes.specs.Record.{car_row}
use Rattle.street_lanes.proofs.Given.{IsGiven}
use Rattle.street_lanes.proofs.record.give.Given as goal

abbrev pub invariant-loop-cursor : goal.invariant-loop-cursor
invariant-loop-cursor g l = IsGiven l.yard l.fn.list.0 g.S.RowSink.takes (λ car. as_written (car_row l.fn.slot g.P.Spot.spot car)) l.fn.sink l.cursor l.sink

abbrev pub decreases-loop-cursor : goal.decreases-loop-cursor
decreases-loop-cursor g l = left l.yard l.fn.list.0 l.cursor
