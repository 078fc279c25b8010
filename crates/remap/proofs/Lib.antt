pub mod Tabled
pub mod Moves
pub mod Numbers
pub mod Whole
pub mod Mapping
