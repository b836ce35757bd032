-- The names that contracts and proofs cite most, passed on from one place. Declares nothing.
pub use Rattle.street_gap.specs.Closed.{IsRising, IsWithin, RisesFrom, are_open, closed_count, entrance_after, is_between, is_in, open_by}
unfoldable pub use Rattle.street_gap.specs.Closed.{closed_marks}
pub use Rattle.street_gap.specs.Sight.{HasCar, IsGapAhead, IsGapBehind, IsGapBeside, IsGapDown, IsNextAbove, IsNextBehind, IsPosition, IsUpTo, gap_by}
pub use Rattle.street_gap.specs.Sight.{lesser, obstacle_by}
