-- The names that contracts and proofs cite most, passed on from one place. Declares nothing.
pub use Rattle.street_yard.specs.Bits.{IsNextBit, has_bit}
pub use Rattle.street_yard.specs.Kinds.{class_of}
pub use Rattle.street_yard.specs.Listed.{AllAbove, IsFalling, IsLane, cell_at, key_at, rear_at, seen_at, vehicle_with}
unfoldable pub use Rattle.street_yard.specs.Listed.{cells_at}
pub use Rattle.street_yard.specs.Neighbour.{number-named, number_of, somebody}
pub use Rattle.street_yard.specs.Tables.{AreEven, AreListed, HasNoKeys, counts, goes_on, hot_of, is_marked, joined, row_of, size_in, told, zipped}
pub use Rattle.street_yard.specs.Thread.{AwayFrom, IsList, IsThread, Links, LinksAt, RowsStandFor, behind_of, inserted_at, linked, list_of, modify}
pub use Rattle.street_yard.specs.Thread.{next_of, no_row, rejoined, row_ahead, row_behind, row_joined, set_ahead, set_behind, unlinked_at}
unfoldable pub use Rattle.street_yard.specs.Thread.{walk}
pub use Rattle.street_yard.specs.View.{viewed}
pub use Rattle.street_yard.specs.Yard.{Away, Has, IsAhead, IsApart, IsBehind, IsFirstBut, IsLoose, IsOnList, IsWhole, Renews, Updates, Yard, YardEntry, car_of}
pub use Rattle.street_yard.specs.Yard.{car_set, entry_at, every_third, first_or, kept_set, lanes_in, last_or, list_at, list_on, list_set, mark_of, mark_set}
pub use Rattle.street_yard.specs.Yard.{put_behind, put_on, thirds, totals_of, unlinked, without}
