-- The names that contracts and proofs cite most, passed on from one place. Declares nothing.
pub use Rattle.street_tile.specs.Commands.{Does, DoesIf, Finds, FindsAt, Have, HaveAtMostOne, HaveNot, Hold, KeepsAll, WhereOnce, over}
unfoldable pub use Rattle.street_tile.specs.Commands.{at_place, planned, without}
pub use Rattle.street_tile.specs.Entries.{DepartAll, PlaceAll, PlacesAt}
pub use Rattle.street_tile.specs.Halves.{Transfer, crossing, entries_to, entry_in, entry_on, let_go_lane, placed_lane, vehicle_in}
unfoldable pub use Rattle.street_tile.specs.Halves.{let_go, placed}
pub use Rattle.street_tile.specs.HandOvers.{AreMarked, Awaits, IsMoved, MovesLast, all_handed, all_places, moved_at, received}
pub use Rattle.street_tile.specs.Hinted.{Hinted, KeepsHints}
pub use Rattle.street_tile.specs.Motion.{DrivesLane, DrivesLanes, HasPlanFor, IsOfStep, MayDrive, ShowLanes, WatchLanes, WatchesLane}
pub use Rattle.street_tile.specs.Parts.{DoesWork, MakesParts, MayRun, MayWork, Runs}
pub use Rattle.street_tile.specs.Phases.{ChangeLanes, EnterPhase, GoesBy, LanePhase, MeterPhase, MotionPhase, ReleasePhase, Then}
unfoldable pub use Rattle.street_tile.specs.Phases.{ticked}
pub use Rattle.street_tile.specs.Steps.{MayStep, Steps}
pub use Rattle.street_tile.specs.TileDetectors.{AllMetersStand, HaveNoted, HaveWatched, KeepMeters, MetersStand, PlacesMeter, bare, detectors_at}
pub use Rattle.street_tile.specs.TileDetectors.{detectors_on, no_detectors}
unfoldable pub use Rattle.street_tile.specs.TileDetectors.{noted_by}
pub use Rattle.street_tile.specs.Tiles.{AllStand, AreBare, AreDue, AreNextPairs, AreNumbers, ArePairs, AreTiles, BeginsLink, BeginsNoPair, Each, IsBare, IsIdle, IsPrepared, IsRoads, IsShare}
pub use Rattle.street_tile.specs.Tiles.{IsStill, IsTileOf, TileView, SameTile, ShowSignals, Shows, ShowsOwn, TileStandsFor, beside, is_own, lanes_beside}
pub use Rattle.street_tile.specs.Tiles.{no_network, nobody, nth, own_places, sizes_of}
pub use Rattle.street_tile.specs.Together.{AreKept, HaveStepped, NobodyArrived, OwnsLink, PreparesOne, SameButArrived, TakesArrival, TakesArrivalOf, TileHasNot}
pub use Rattle.street_tile.specs.Together.{TilesGo, TilesKeep, TilesStandFor, TilesView, all_arrived, tiles_of}
pub use Rattle.street_tile.specs.Walks.{HandsOver, HasFront, IsReleasing, ReleasesFront, Targets}
