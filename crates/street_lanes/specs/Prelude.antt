-- The names that contracts and proofs cite most, passed on from one place. Declares nothing.
pub use Rattle.street_lanes.specs.Detectors.{AllGoOn, AllNote, Detectors, GoesOn, MeterStands, MetersStandFor, Notes, Placed, cleared, triple_of, watch_of}
pub use Rattle.street_lanes.specs.Nobody.{HasEmptyBuffer, HasNobody, HasNobodyInCells, HasNobodyWaiting, IsDeserted}
pub use Rattle.street_lanes.specs.Dues.{AreDue, IsFirstDue, StaysAt}
pub use Rattle.street_lanes.specs.LaneChanges.{ChangesAt, ChangesLanes, changed_lane}
pub use Rattle.street_lanes.specs.Lanes.{AllLanes, GoesAt, GoesIf, IsLane, Lanes, Others, Same, fresh, fresh_on, lane_of, no_place, place_at, size_of, size_on}
pub use Rattle.street_lanes.specs.Lists.{AreShort, ComesIn, Departs, Enters, HasShortPlan, IsFreeCell, IsNotAfter, IsPlaceFor, IsShort, IsStart}
pub use Rattle.street_lanes.specs.Lists.{Joins, LetsGo, NoneLoose, NoneLooseBut, Packs, SameList, Touches, buffer_list, cars_on, cells_list, held_on}
pub use Rattle.street_lanes.specs.Lists.{lane_seen, lane_with, waiting_list}
pub use Rattle.street_lanes.specs.Marks.{Marks}
pub use Rattle.street_lanes.specs.Motion.{DrivesAt, IsFarFrom, IsStepOf, IsToldExit, MovesLane, MovesLeg, PlanStands, Settles, TellsExit, arrived_car, behind_all}
pub use Rattle.street_lanes.specs.Motion.{cells_on, is_open_to, opens_to}
pub use Rattle.street_lanes.specs.Search.{IsFound, IsSought, TakesOut}
pub use Rattle.street_lanes.specs.ShownCars.{shown_in_buffer, shown_in_cell, shown_stretch, shown_waiting}
pub use Rattle.street_lanes.specs.Views.{AreInOrder, GoesBefore, IsLaneOf, LaneView, queued_of, ready_next, waiting_of, without_front}
unfoldable pub use Rattle.street_lanes.specs.Views.{LaneStands}
pub use Rattle.street_lanes.specs.Whereabouts.{TellsWhere, TellsWhether, told_in_buffer, told_in_cell, told_waiting}
unfoldable pub use Rattle.street_lanes.specs.Whereabouts.{vehicle_on}
pub use Rattle.street_lanes.specs.Whole.{AllFree, IsOn, LanesGo, LanesStand, cars_in_cells}
