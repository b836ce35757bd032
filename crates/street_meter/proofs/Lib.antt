pub mod Ranges
pub mod Periods
