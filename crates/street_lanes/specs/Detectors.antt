-- The detectors of a lane, and what they note of a step.
use Rattle.std.specs.Prelude.{◌≡◌, ℕ, ◌+◌, ◌<◌, List, [], ◌∷◌, ◌++◌, length, slice_index_or, if◌then◌else◌}
use Rattle.street_base.specs.Prelude.{Cells, is_covered, Traffic, Triple, Detector, lane_at, drive_on}
use Rattle.street_base.specs.declared.names.Place.{Place}
use Rattle.street_meter.specs.Meter.{Meter, Stands, IsPlacedAs, detector_of, next_step}
use Rattle.street_rule.specs.declared.watch.Watch.{Watch}
use Rattle.street_rule.specs.Prelude.{watched}

-- what contracts see of a lane's detectors: `size`, how many cells the lane has, a meter for each detector, in the
-- order of placing, and by the same positions a watch of each, with what it saw of the last motion
pub record Detectors : Type 0 where
  pub size : ℕ
  pub meters : List Meter
  pub watches : List Watch

-- ---- the step

-- the watch for a meter, at the meter's cell, which has seen nothing yet: no passes, and a sum of speeds of 0
abbrev pub cleared : Meter → Watch
cleared x = record { cell = x.cell; passes = 0; speeds = 0 }

-- what the watch of a meter sees of the motion that is made from this traffic on the lane at place p: the meter's cell,
-- how many fronts pass that cell, and the sum of their speeds
abbrev pub watch_of : Traffic → Place → Meter → Watch
watch_of m p x = watched (drive_on m p) (lane_at m p).track (cleared x)

-- 1 if a vehicle covers the cell with its front or its body, else 0
abbrev pub occupied_at : Cells → ℕ → ℕ
occupied_at cells cell = if is_covered cells cell then 1 else 0

-- what a detector in this cell notes of a step: the passes and the sum of speeds that its watch w saw, and `occupied`,
-- 1 if a vehicle covers the cell in `cells`, those of the step's end, else 0
abbrev pub triple_of : Cells → Watch → ℕ → Triple
triple_of cells w cell = record { passes = w.passes; speeds = w.speeds; occupied = occupied_at cells cell }

-- that a meter has the same place, cell, period and start as before, and the next step that it notes is one later
pub record GoesOn (old new : Meter) : Type 0 where
  pub placed : IsPlacedAs new old
  pub next : next_step new ≡ next_step old + 1

-- that, whatever triples the old meter stood for by its rows (`Stands`), the new one stands for these and one more
-- behind them: what watch w saw, and whether the old meter's cell is covered in `cells`
abbrev pub Notes : Cells → Watch → Meter → Meter → Type 0
Notes cells w old new = (triples : List Triple) → Stands old triples → Stands new (triples ++ triple_of cells w old.cell ∷ [])

-- that there are as many meters as before, and each, by its position, has kept place, cell, period and start, and notes
-- next the step one later (`GoesOn`)
pub record AllGoOn (olds news : List Meter) : Type 0 where
  pub even : length news ≡ length olds
  pub each : (k : ℕ) (x : Meter) → k < length olds → GoesOn (slice_index_or olds k x) (slice_index_or news k x)

-- that each of these meters has noted one more step (`Notes`), with the watch of the same position and the cells at the
-- step's end; that there are as many as before is not said
abbrev pub AllNote : Cells → List Watch → List Meter → List Meter → Type 0
AllNote cells ws olds news = (k : ℕ) (x : Meter) (w : Watch) → k < length olds
    → Notes cells (slice_index_or ws k w) (slice_index_or olds k x) (slice_index_or news k x)

-- ---- the machine's detectors

-- that a meter stands for a detector of the machine: it has the detector's place, cell, period and start, and its rows,
-- full and running, are those that the detector tells of all triples that it has noted (`Stands`)
pub record MeterStands (x : Meter) (d : Detector) : Type 0 where
  pub placed : d ≡ detector_of x d.triples
  pub stands : Stands x d.triples

-- that there are as many meters as detectors, and each meter has the place, cell, period, start and rows of the
-- detector of the same position (`MeterStands`)
pub record MetersStandFor (xs : List Meter) (ds : List Detector) : Type 0 where
  pub even : length ds ≡ length xs
  pub each : (k : ℕ) (x : Meter) (d : Detector) → k < length xs → MeterStands (slice_index_or xs k x) (slice_index_or ds k d)

-- ---- a detector more

-- that a meter is at place p in cell `at`, with rows of `steps` steps, has noted nothing, and both starts with step
-- `first` and notes that step next
pub record IsNew (p : Place) (at steps first : ℕ) (x : Meter) : Type 0 where
  pub place : x.place ≡ p
  pub cell : x.cell ≡ at
  pub period : x.period ≡ steps
  pub start : x.start ≡ first
  pub next : next_step x ≡ first
  pub stands : Stands x []

-- that the lane has, behind its meters as they were, one more, new at place p in cell `at`, with rows of `steps` steps
-- from step `first` on (`IsNew`), and has as many cells as before; of its watches nothing is said
pub record Placed (p : Place) (at steps first : ℕ) (old new : Detectors) : Type 0 where
  pub meter : Meter
  pub new_one : IsNew p at steps first meter
  pub meters : new.meters ≡ old.meters ++ meter ∷ []
  pub size : new.size ≡ old.size
