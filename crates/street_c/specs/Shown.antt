-- What replies are in the fields of structs of C.
use Rattle.std.specs.Prelude.{◌≡◌, ◌<◌, ℕ, List, [], Bool, true, false, length, map}
use Rattle.street_base.specs.declared.reply.End.TheVariants.{Arrived, Taken}
use Rattle.street_base.specs.declared.reply.Reply.{Reply}
use Rattle.street_base.specs.declared.reply.Reply.TheVariants.{Census, Clock, Entered, Rows, Vehicle}
use Rattle.street_base.specs.declared.reply.MeterRow.{MeterRow}
use Rattle.street_base.specs.declared.reply.RunningRow.{RunningRow}
use Rattle.street_base.specs.declared.reply.Whereabouts.{Whereabouts}
use Rattle.street_base.specs.declared.reply.Whereabouts.TheVariants.{Cell, Buffer, Waiting, Ended}
use Rattle.street_c.specs.declared.rows.StreetsimRow.{StreetsimRow}
use Rattle.street_c.specs.declared.rows.StreetsimRunning.{StreetsimRunning}
use Rattle.street_c.specs.declared.rows.StreetsimVehicle.{StreetsimVehicle}

-- the fields of a vehicle that is there, those that its state does not have being 0: state 0 in a cell, 1 in a buffer,
-- 2 waiting, 3 arrived, 4 taken out
abbrev pub vehicle_row : Whereabouts → StreetsimVehicle
vehicle_row (Cell link lane cell speed size plan) = record { state = 0; link = link; lane = lane; cell = cell; speed = speed; size = size; step = 0 }
vehicle_row (Buffer link lane ready speed size plan) = record { state = 1; link = link; lane = lane; cell = 0; speed = speed; size = size; step = ready }
vehicle_row (Waiting link lane depart size plan) = record { state = 2; link = link; lane = lane; cell = 0; speed = 0; size = size; step = depart }
vehicle_row (Ended (Arrived step)) = record { state = 3; link = 0; lane = 0; cell = 0; speed = 0; size = 0; step = step }
vehicle_row (Ended (Taken step)) = record { state = 4; link = 0; lane = 0; cell = 0; speed = 0; size = 0; step = step }

-- the rest of its plan; none of one that has ended
abbrev pub plan_of : Whereabouts → List ℕ
plan_of (Cell link lane cell speed size plan) = plan
plan_of (Buffer link lane ready speed size plan) = plan
plan_of (Waiting link lane depart size plan) = plan
plan_of (Ended end) = []

-- that a reply tells where a vehicle is, by this row and this rest of its plan
abbrev pub ShowsVehicle : StreetsimVehicle → List ℕ → Reply → Type 0
ShowsVehicle row plan (Vehicle car whereabouts) = (row ≡ vehicle_row whereabouts) × (plan ≡ plan_of whereabouts)
ShowsVehicle row plan reply = ⊥

-- that a reply tells where a vehicle is, by this row, and that the rest of its plan has so many links, more than there is room for
abbrev pub LongVehicle : StreetsimVehicle → ℕ → List ℕ → Reply → Type 0
LongVehicle row links room (Vehicle car whereabouts) = (row ≡ vehicle_row whereabouts) × (links ≡ length (plan_of whereabouts)) × (length room < links)
LongVehicle row links room reply = ⊥

-- the fields of a full period
abbrev pub full_row : MeterRow → StreetsimRow
full_row row = record { start = row.start; passes = row.passes; speeds = row.speeds; occupied = row.occupied }

-- the fields of the running period
abbrev pub running_row : RunningRow → StreetsimRunning
running_row now = record { start = now.start; steps = now.steps; passes = now.passes; speeds = now.speeds; occupied = now.occupied }

-- that a reply tells the rows of a detector, by this running period and these full ones
abbrev pub ShowsRows : StreetsimRunning → List StreetsimRow → Reply → Type 0
ShowsRows running rows (Rows now full) = (running ≡ running_row now) × (rows ≡ map full_row full)
ShowsRows running rows reply = ⊥

-- that a reply tells the rows of a detector, by this running period, and that the full ones are so many, more than there is room for
abbrev pub LongRows : StreetsimRunning → ℕ → List StreetsimRow → Reply → Type 0
LongRows running count room (Rows now full) = (running ≡ running_row now) × (count ≡ length full) × (length room < count)
LongRows running count room reply = ⊥

-- ---- the replies that the calls have room for

abbrev pub is_clock : Reply → Bool
is_clock (Clock clock) = true
is_clock reply = false

abbrev pub is_census : Reply → Bool
is_census (Census admitted arrived buffers cells clock taken waiting) = true
is_census reply = false

abbrev pub is_entered : Reply → Bool
is_entered (Entered car) = true
is_entered reply = false

abbrev pub is_vehicle : Reply → Bool
is_vehicle (Vehicle car whereabouts) = true
is_vehicle reply = false

abbrev pub is_rows : Reply → Bool
is_rows (Rows now full) = true
is_rows reply = false
