pub mod NotedSteps
pub mod ToldSteps
pub mod Recorded
pub mod Serves
pub mod LoadCommand
pub mod AdvanceCommand
pub mod VehicleCommands
pub mod Numbers
pub mod LaneCommands
pub mod SignalCommand
pub mod EnterCommand
pub mod DetectorCommands
mod AreSites
mod Arrivals
mod AreComing
mod StepArrivals
mod AreCounted
mod StreetsStandFor
mod ShiftSteps
