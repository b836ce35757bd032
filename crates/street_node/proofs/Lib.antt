pub mod GreenSearch
pub mod TurnRank
pub mod Shown
pub mod GreenTurns
pub mod LinkMarks
pub mod KeptPlan
pub mod Joins
mod Queues
pub mod BufferWalk
pub mod LaneWalk
pub mod Mouths
pub mod Crossings
mod Sends
mod ReleaseLemmas
mod Steps
