-- The rows that are given of a lane's lists are those of the lane.
use Rattle.std.proofs.Common.{◌≡◌, ℕ, List, ◌++◌, map, sym, ap, ◌∙◌}
use Rattle.std.proofs.lemmas.List.{map-append}
use Rattle.std.proofs.lemmas.Simd.{map-map}
use Rattle.street_base.specs.declared.car.Car.{Car}
use Rattle.street_base.specs.declared.record.RecordRow.{RecordRow}
use Rattle.street_base.specs.Prelude.{LaneState, buffer_entry, buffer_row, buffer_spot, cell_row, lane_rows}
use Rattle.street_gap.specs.declared.closures.Stretch.{Stretch}
use Rattle.street_yard.specs.Prelude.{Yard, IsLane}
use Rattle.street_lanes.specs.Prelude.{LaneStands, queued_of, cells_list, buffer_list, cars_on, lane_seen, shown_in_cell}
use Rattle.street_record.specs.Rows.{as_written}
use Rattle.street_lanes.specs.Record.{car_row}
use Rattle.street_lanes.proofs.Occupied.{cells-shown}

-- where a car in a cell is, and where one in a buffer is
abbrev pub cell_of : Car → ℕ
cell_of c = c.cell

abbrev pub ready_of : Car → ℕ
ready_of c = buffer_spot c.step

rows-are : (y : Yard) (closed : List Stretch) (count n slot : ℕ) → IsLane y (cells_list n) count
    → map (car_row slot cell_of) (cars_on y (cells_list n)) ++ map (car_row slot ready_of) (cars_on y (buffer_list n)) ≡ lane_rows slot (lane_seen y closed count n)
rows-are y closed count n slot lane =
    let inside = sym (map-map (cell_row slot) shown_in_cell (cars_on y (cells_list n))) ∙ ap (map (cell_row slot)) (cells-shown y (cells_list n) count lane) in
    let behind =
    sym (map-map (λ q. buffer_row slot (buffer_entry q)) queued_of (cars_on y (buffer_list n)))
    ∙ sym (map-map (buffer_row slot) buffer_entry (map queued_of (cars_on y (buffer_list n)))) in
    λ i. inside i ++ behind i

-- as they are written
pub rows-written : (y : Yard) (closed : List Stretch) (count n slot : ℕ) → IsLane y (cells_list n) count
    → map (λ (c : Car). as_written (car_row slot cell_of c)) (cars_on y (cells_list n)) ++ map (λ (c : Car). as_written (car_row slot ready_of c)) (cars_on y (buffer_list n)) ≡ map as_written (lane_rows slot (lane_seen y closed count n))
rows-written y closed count n slot lane =
    let cells = map (car_row slot cell_of) (cars_on y (cells_list n)) in
    let buffer = map (car_row slot ready_of) (cars_on y (buffer_list n)) in
    ap (λ (rows : List RecordRow). rows ++ map (λ (c : Car). as_written (car_row slot ready_of c)) (cars_on y (buffer_list n))) (sym (map-map as_written (car_row slot cell_of) (cars_on y (cells_list n))))
    ∙ ap (λ (rows : List RecordRow). map as_written cells ++ rows) (sym (map-map as_written (car_row slot ready_of) (cars_on y (buffer_list n))))
    ∙ sym (map-append as_written cells buffer)
    ∙ ap (map as_written) (rows-are y closed count n slot lane)

-- they are those of the lane of the machine for which it stands
pub rows-stand : (x s : LaneState) (slot : ℕ) → LaneStands x s → lane_rows slot x ≡ lane_rows slot s
unfolding LaneStands
rows-stand x s slot stands =
    let track = stands.track in
    let queue = stands.queue in
    λ i. lane_rows slot (record s { track = track i; queue = queue i })
