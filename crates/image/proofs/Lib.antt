pub mod Frames
pub mod Checks
