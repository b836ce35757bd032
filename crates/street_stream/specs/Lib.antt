pub mod Lines
pub mod Streams
pub mod HandledLines
pub mod Faults
pub mod Progress
pub mod Calls
pub mod OpenTexts
pub mod Logs
