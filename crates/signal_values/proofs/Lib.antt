pub mod Bits
pub mod Bounds
pub mod Turns
pub mod Deciding
