pub mod Passes
pub mod Walks
