-- What a contract sees of a meter, and the triples that it stands for.
use Rattle.std.specs.Prelude.{◌≡◌, ℕ, ◌+◌, List}
use Rattle.street_base.specs.declared.reply.MeterRow.{MeterRow}
use Rattle.street_base.specs.declared.reply.RunningRow.{RunningRow}
use Rattle.street_base.specs.declared.names.Place.{Place}
use Rattle.street_base.specs.Prelude.{Triple, Detector, full_rows, running_row}

-- what is kept of a detector: its lane (`place`) and cell, its period in steps, the first step noted, the rows of its
-- last full periods, and the row of the period that is not over
pub record Meter : Type 0 where
  pub place : Place
  pub cell : ℕ
  pub period : ℕ
  pub start : ℕ
  pub rows : List MeterRow
  pub running : RunningRow

-- the running row of the code as the definitions have it: a row of its start and sums, and beside it how many steps
-- they sum
abbrev pub running_seen : RunningRow → MeterRow × ℕ
running_seen row = (record { start = row.start; passes = row.passes; speeds = row.speeds; occupied = row.occupied }, row.steps)

-- the triple of a step, of three numbers: how many vehicles passed, the sum of their speeds, and 1 if the cell was
-- covered at the step's end, else 0
abbrev pub triple : ℕ → ℕ → ℕ → Triple
triple passes speeds occupied = record { passes = passes; speeds = speeds; occupied = occupied }

-- the detector of the machine with a meter's lane, cell, period and first step that has noted these triples, one a
-- step; what rows the meter has does not matter
abbrev pub detector_of : Meter → List Triple → Detector
detector_of m triples = record { place = m.place; cell = m.cell; period = m.period; start = m.start; triples = triples }

-- that `rows` are the detector's full rows (of its last 32 full periods, or of all if they are fewer), and `running` is
-- the row of its period that is not over, with how many steps it sums
pub record IsRead (rows : List MeterRow) (running : RunningRow) (detector : Detector) : Type 0 where
  pub full : rows ≡ full_rows detector
  pub now : running_seen running ≡ running_row detector

-- that a meter stands for a detector of its lane, cell, period and first step that has noted these triples, one a step:
-- the meter's full rows and its running row are what that detector tells
abbrev pub Stands : Meter → List Triple → Type 0
Stands m triples = IsRead m.rows m.running (detector_of m triples)

-- the step that a meter notes next: the start of its running row plus how many steps that row sums
abbrev pub next_step : Meter → ℕ
next_step m = m.running.start + m.running.steps

-- that the new meter has the lane, cell, period and first step of the old one; of its rows nothing is said
pub record IsPlacedAs (new old : Meter) : Type 0 where
  pub place : new.place ≡ old.place
  pub cell : new.cell ≡ old.cell
  pub period : new.period ≡ old.period
  pub start : new.start ≡ old.start
