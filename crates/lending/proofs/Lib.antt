pub mod Entered
pub mod Unique
