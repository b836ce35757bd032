-- The record of a run: for each step a block, with a head and a row for each vehicle that stands on a lane after the step, or that arrived in it.
use Rattle.std.specs.Prelude.{ℕ, zero, suc, ◌+◌, ◌*◌, List, [], ◌∷◌, ◌++◌, length, map, flat_map, filter_map, reverse, Option, Some, None, option_map, option_to_list, if◌then◌else◌}
use Rattle.std.specs.Int.{w32, to_le_bytes}
use Rattle.std.specs.List.{enumerate_from}
use Rattle.street_base.specs.declared.names.Place.{Place}
use Rattle.street_base.specs.declared.record.RecordHead.{RecordHead}
use Rattle.street_base.specs.declared.record.RecordRow.{RecordRow}
use Rattle.street_base.specs.declared.reply.BufferEntry.{BufferEntry}
use Rattle.street_base.specs.declared.reply.CellEntry.{CellEntry}
use Rattle.street_base.specs.Network.{places}
use Rattle.street_base.specs.Vehicle.{Vehicle, is_on_last}
use Rattle.street_base.specs.State.{LaneState, Traffic, lane_at}
use Rattle.street_base.specs.Step.{changed, leaver_of, step}
use Rattle.street_base.specs.Shown.{buffer_entry, cell_entry, have_arrived, were_taken}

-- ---- rows

-- the number by which a record's rows name a lane: twice the position of its link, and its number on the link added
abbrev pub slot_of : Place → ℕ
slot_of place = 2 * place.link + place.lane

-- what a row says in place of a cell for a vehicle in a buffer: 2^31 and the step from which it may go on, added
abbrev pub buffer_spot : ℕ → ℕ
buffer_spot ready = 2147483648 + ready

-- what a row says in place of a cell for a vehicle that arrived: 2^32 - 1
abbrev pub arrived_spot : ℕ
arrived_spot = 4294967295

-- the record's row of a vehicle in a cell of the lane with this slot, made of the entry that shows it: its spot is the
-- cell
abbrev pub cell_row : ℕ → CellEntry → RecordRow
cell_row slot e = record { car = e.car; slot = slot; spot = e.cell; speed = e.speed }

-- the record's row of a vehicle in the buffer of the lane with this slot, made of the entry that shows it: its spot
-- tells the ready step
abbrev pub buffer_row : ℕ → BufferEntry → RecordRow
buffer_row slot e = record { car = e.car; slot = slot; spot = buffer_spot e.ready; speed = e.speed }

-- the record's row of a vehicle that arrived from the lane with this slot, with the speed at which it left
abbrev pub arrived_row : ℕ → Vehicle → RecordRow
arrived_row slot v = record { car = v.number; slot = slot; spot = arrived_spot; speed = v.speed }

-- the rows of the lane with this slot: vehicles in its cells, the one furthest ahead first, then its buffer from the
-- front; not who waits
abbrev pub lane_rows : ℕ → LaneState → List RecordRow
lane_rows slot lane =
    map (cell_row slot) (reverse (filter_map cell_entry (enumerate_from 0 lane.track.cells)))
    ++ map (buffer_row slot) (map buffer_entry lane.queue)

-- the vehicle that arrives, given who leaves a lane: that vehicle if it is on its plan's last link, else none
abbrev pub arriving : Option Vehicle → Option Vehicle
arriving None = None
arriving (Some v) = if is_on_last v then Some v else None

-- the row of the vehicle that arrives from the lane with this slot, given who leaves it; no row where nobody arrives
abbrev pub arrival_rows : ℕ → Option Vehicle → List RecordRow
arrival_rows slot leaver = option_to_list (option_map (arrived_row slot) (arriving leaver))

-- the rows of a step, lane by lane: who is on the lane after the step, then who arrived from it; `before` is the state
-- between lane changes and motion
abbrev pub rows_between : Traffic → Traffic → List RecordRow
rows_between before after =
    flat_map (λ place. lane_rows (slot_of place) (lane_at after place) ++ arrival_rows (slot_of place) (leaver_of before place)) (places after.network)

-- the rows of the step that starts from this state
abbrev pub rows_of_step : Traffic → List RecordRow
rows_of_step m = rows_between (changed m) (step m)

-- ---- the block of a step, and the record of steps

-- the head of a block with so many rows: the clock after the step, and how many vehicles had arrived and were taken out
-- by then
abbrev pub head_after : Traffic → ℕ → RecordHead
head_after after rows = record { clock = after.clock; rows = rows; arrived = have_arrived after; taken = were_taken after }

-- the bytes of a block's head: clock, rows, arrived and taken, each a number of 32 bits, least byte first
abbrev pub head_bytes : RecordHead → List ℕ
head_bytes head = to_le_bytes w32 head.clock ++ to_le_bytes w32 head.rows ++ to_le_bytes w32 head.arrived ++ to_le_bytes w32 head.taken

-- the bytes of a row: car, slot, spot and speed, each a number of 32 bits, least byte first
abbrev pub row_bytes : RecordRow → List ℕ
row_bytes row = to_le_bytes w32 row.car ++ to_le_bytes w32 row.slot ++ to_le_bytes w32 row.spot ++ to_le_bytes w32 row.speed

-- the bytes of rows, one row after another
abbrev pub rows_bytes : List RecordRow → List ℕ
rows_bytes rows = flat_map row_bytes rows

-- the bytes of a block: a head, made of the state after the step, then these rows
abbrev pub block_after : Traffic → List RecordRow → List ℕ
block_after after rows = head_bytes (head_after after (length rows)) ++ rows_bytes rows

-- the bytes of the record of the step that starts from this state
unfoldable pub block : Traffic → List ℕ
block m = block_after (step m) (rows_of_step m)

-- the bytes of the record of the next so many steps from this state: their blocks, one after another
abbrev pub blocks : ℕ → Traffic → List ℕ
blocks zero m = []
blocks (suc n) m = block m ++ blocks n (step m)
