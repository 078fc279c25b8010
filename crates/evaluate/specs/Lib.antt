pub mod Passes
pub mod Cycle
