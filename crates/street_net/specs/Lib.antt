pub mod Keys
pub mod Refused
pub mod Slots
pub mod Tables
pub mod Prelude
