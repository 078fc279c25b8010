pub mod Stored
pub mod Sizes
pub mod Writes
