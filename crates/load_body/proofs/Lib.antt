pub mod Copying
pub mod Walks
pub mod Loads
