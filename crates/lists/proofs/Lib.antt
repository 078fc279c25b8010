pub mod Dropping
pub mod Mapping
pub mod Ordering
pub mod Checks
