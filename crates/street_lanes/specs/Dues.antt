-- Lanes on which nobody departs yet.
use Rattle.std.specs.Prelude.{ℕ, ◌≡◌, ◌<◌, ◌≤◌, ◌/◌, List, Some, slice_get, slice_index_or}
use Rattle.street_base.specs.declared.car.Car.{Car}
use Rattle.street_base.specs.Prelude.{LaneState, departed_lane}
use Rattle.street_yard.specs.Prelude.{Yard}
use Rattle.street_lanes.specs.Views.{LaneView, LaneStands}
use Rattle.street_lanes.specs.Lists.{cars_on, waiting_list}

-- that departures at this clock leave each lane as it is for which the lane's view stands
abbrev pub StaysAt : ℕ → LaneView → Type 0
StaysAt clock x = (s : LaneState) → LaneStands x s → departed_lane clock s ≡ s

-- that the first who waits on lane n departs in step d or later; so where nobody waits
abbrev pub IsFirstDue : Yard → ℕ → ℕ → Type 0
IsFirstDue y n d = (c : Car) → slice_get (cars_on y (waiting_list n)) 0 ≡ Some c → d ≤ c.step

-- that of each of so many lanes the first who waits departs in the step that `due` has at n / 64 or later, 0 where it has none
abbrev pub AreDue : Yard → ℕ → List ℕ → Type 0
AreDue y lanes due = (n : ℕ) → n < lanes → IsFirstDue y n (slice_index_or due (n / 64) 0)
