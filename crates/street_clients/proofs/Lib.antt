pub mod Lines
pub mod Pairs
pub mod Told
pub mod Stopped
