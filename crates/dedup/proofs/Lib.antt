pub mod Turned
pub mod Endings
pub mod Sweeps
pub mod Finish
