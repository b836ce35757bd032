pub mod Refines
pub mod Sites
pub mod Streets
pub mod Ends
pub mod Noted
pub mod Shifts
pub mod Prelude
