pub mod Arrivals
pub mod Counted
pub mod Folds
pub mod InOrder
pub mod Places
mod Searched
pub mod Writes
pub mod Written
