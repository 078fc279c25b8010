pub mod Working
pub mod Unique
