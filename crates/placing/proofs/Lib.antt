pub mod Areas
pub mod Fills
pub mod Standing
pub mod Lookups
