pub mod Meter
pub mod Inside
