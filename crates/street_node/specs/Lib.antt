pub mod Greens
pub mod Buffers
pub mod Walks
pub mod Releases
pub mod Prelude
