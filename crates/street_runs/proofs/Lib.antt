pub mod Begun
pub mod Counts
pub mod First
pub mod Scripts
pub mod Told
pub mod Parser
pub mod Recording
pub mod KeepsRecorded
