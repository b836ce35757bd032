use Rattle.std.proofs.Common.{◌≡◌, ℕ, List, map, ◌++◌, sym, ap, subst, ◌∙◌}
use Rattle.std.specs.List.{FoldsTo}
use Rattle.street_base.specs.declared.car.Car.{Car}
use Rattle.street_base.specs.declared.record.RecordRow.{RecordRow}
use Rattle.street_base.specs.Prelude.{LaneState, lane_rows}
use Rattle.street_lanes.specs.Prelude.{lane_of, cells_list, buffer_list, cars_on}
use Rattle.street_lanes.specs.Inside.{length_at, closed_at}
use Rattle.street_record.specs.Rows.{as_written}
use Rattle.street_lanes.specs.Record.{car_row}
use Rattle.street_lanes.proofs.Access.{in-extents, few-lanes, cells-there, buffer-there, lane-is}
use Rattle.street_record.proofs.Folds.{folds-on}
use Rattle.street_lanes.proofs.GivenRows.{cell_of, ready_of, rows-written}
use Rattle.street_lanes.proofs.lanes.Lanes.record.Goals as goal

pub cells_list-requires : goal.cells_list-requires
cells_list-requires g c = few-lanes c.self.inside c.args.self.now c.self.view_is c.args.lane c.requires c.self.invariant.laid

pub give-requires : goal.give-requires
give-requires g c = rw c.cells_list.ensures (cells-there c.self.inside c.args.self.now c.self.view_is c.args.lane c.requires c.self.invariant.laid)

pub buffer_list-requires : goal.buffer_list-requires
buffer_list-requires g c = few-lanes c.self.inside c.args.self.now c.self.view_is c.args.lane c.requires c.self.invariant.laid

pub give-requires-2 : goal.give-requires-2
give-requires-2 g c = rw c.buffer_list.ensures (buffer-there c.self.inside c.args.self.now c.self.view_is c.args.lane c.requires c.self.invariant.laid)

pub returns : goal.returns
returns g c =
    let n = c.args.lane in
    let y = c.self.inside.yard in
    let slot = c.args.slot in
    let takes = g.S.RowSink.takes in
    let within = in-extents c.self.inside c.args.self.now c.self.view_is n c.requires in
    let cells : FoldsTo takes c.args.sink.now (map (λ (car : Car). as_written (car_row slot cell_of car)) (cars_on y (cells_list n))) c.give.new.sink =
    subst (λ (l : ℕ). FoldsTo takes c.args.sink.now (map (λ (car : Car). as_written (car_row slot cell_of car)) (cars_on y l)) c.give.new.sink) c.cells_list.ensures c.give.ensures in
    let buffer : FoldsTo takes c.give.new.sink (map (λ (car : Car). as_written (car_row slot ready_of car)) (cars_on y (buffer_list n))) c.give-2.new.sink =
    subst (λ (l : ℕ). FoldsTo takes c.give.new.sink (map (λ (car : Car). as_written (car_row slot ready_of car)) (cars_on y l)) c.give-2.new.sink) c.buffer_list.ensures c.give-2.ensures in
    let are =
    rows-written y (closed_at c.self.inside.closures.items n) (length_at c.self.inside.extents.items n) n slot (c.self.invariant.laid.falls n within)
    ∙ ap (λ (lane : LaneState). map as_written (lane_rows slot lane)) (sym (lane-is c.self.inside c.args.self.now c.self.view_is n c.requires)) in
    subst (λ (rows : List RecordRow). FoldsTo takes c.args.sink.now rows c.give-2.new.sink) are (folds-on takes c.args.sink.now c.give.new.sink c.give-2.new.sink _ _ cells buffer)
