pub mod Pushes
pub mod Walks
