pub mod SameLanes
mod Gaps
pub mod Each
pub mod Rows
pub mod Crossings
pub mod OwnLanes
mod Pairs
mod TileChanges
mod TileMotion
mod DrivenLanes
mod DepartedLanes
mod TileReleases
mod HeldMouths
mod ShownLanes
mod Slots
pub mod LaneOwners
pub mod PublishedView
pub mod SameTile
pub mod PhasesOfAll
pub mod MovedHandOvers
mod Numbers
pub mod DoesIf
pub mod MetersStand
mod Phases
pub mod PlacesMeter
mod EmptyTile
mod MadeTiles
pub mod NumberOnce
pub mod BetweenPhases
pub mod Lent
mod KeepsHints
pub mod Together
pub mod Sums
pub mod Ones
mod TileCommands
mod Seen
mod LaneCounts
mod NextArrival
pub mod Stepped
