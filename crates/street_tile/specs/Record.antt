-- The rows of a step, link by link, and the row of a vehicle that arrived.
use Rattle.std.specs.Prelude.{ℕ, List, flat_map, length, map}
use Rattle.std.specs.List.{range_with_len}
use Rattle.street_base.specs.declared.names.Place.{Place}
use Rattle.street_base.specs.declared.record.RecordRow.{RecordRow}
use Rattle.street_base.specs.declared.net.NetSpec.{NetSpec}
use Rattle.street_base.specs.Prelude.{Traffic, changed, step, leaver_of, link_at, arrival_rows, arrived_spot, slot_of}
use Rattle.street_record.specs.Rows.{as_written, rows_at}
use Rattle.street_lanes.specs.declared.motion.ArrivedCar.{ArrivedCar}

-- the row of a vehicle that arrived from the lane of this slot: its number, the slot, the spot that stands for arrival,
-- 2^32 - 1, and its speed
abbrev pub arrived_from : ℕ → ArrivedCar → RecordRow
arrived_from slot car = record { car = car.number; slot = slot; spot = arrived_spot; speed = car.speed }

-- the rows of lane p in the step that is made from this traffic: of who is in its cells, then in its buffer, after the
-- step, then of who arrived from it, each with the lowest 32 bits of its spot, which are written
abbrev pub step_rows : Traffic → Place → List RecordRow
step_rows m p = map as_written (rows_at (changed m) (step m) p)

-- the rows of all lanes of a link in the step that is made from this traffic, lane by lane, as they are written
abbrev pub link_rows : NetSpec → Traffic → ℕ → List RecordRow
link_rows net m link = flat_map (λ k. step_rows m (record { link = link; lane = k })) (range_with_len 0 (link_at net link).lanes)

-- the count of vehicles that arrive from lane p in the step that is made from this traffic: 1 or 0
abbrev pub arrived_at : Traffic → Place → ℕ
arrived_at m p = length (arrival_rows (slot_of p) (leaver_of (changed m) p))
