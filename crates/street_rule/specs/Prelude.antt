-- The names that contracts and proofs cite most, passed on from one place. Declares nothing.
pub use Rattle.street_rule.specs.Changed.{Changes, IsOn, KeepsRest}
pub use Rattle.street_rule.specs.Course.{AreTold, Reckons, bar_of, end_of, motion_gap_to, speed_on}
pub use Rattle.street_rule.specs.KeptDraws.{Asked, IsKept, IsSound, bits_of, is_drawn, is_within}
pub use Rattle.street_rule.specs.Marks.{Marks, MarksChanges}
pub use Rattle.street_rule.specs.Odds.{Odds}
pub use Rattle.street_rule.specs.Pass.{Drives, HasMoved, IsExit, Leaves, MovesAlong, MovesList, MovesOn, drive_with, left_lists, stopped}
pub use Rattle.street_rule.specs.Relinked.{Carries, HasNoMarks, IsFallen, IsOnEither, KeepsOthers, Relinks, is_marked, is_unmarked, put_all, put_falling}
pub use Rattle.street_rule.specs.Road.{IsRoad, IsRoadLane, Road, RoadLane, lane_of, lane_seen, length_of, lists_of, no_lane, track_of}
pub use Rattle.street_rule.specs.Sight.{Decides, DecidesAt, IsOutlook, TellsRoom, changing_of, decision, change_gap_to, change_gap_behind, change_gap_ahead, has_room}
pub use Rattle.street_rule.specs.Sight.{IsNear, has_room_between, odds_of, wishes_with}
pub use Rattle.street_rule.specs.Watch.{HasRoom, IsReady, noted, watched}
