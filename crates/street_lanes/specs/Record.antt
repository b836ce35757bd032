-- The row of a car of the yard, as the record of a run has it.
use Rattle.std.specs.Prelude.{ℕ}
use Rattle.street_base.specs.declared.car.Car.{Car}
use Rattle.street_base.specs.declared.record.RecordRow.{RecordRow}

-- the row of a car in the record of a run: its number, the slot of its lane, where it is on the lane (`spot` of the
-- car), and its speed
abbrev pub car_row : ℕ → (Car → ℕ) → Car → RecordRow
car_row slot spot car = record { car = car.number; slot = slot; spot = spot car; speed = car.speed }
