pub mod Mappings
pub mod Merging
