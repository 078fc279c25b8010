-- What belongs to no one function.
pub mod Words
pub mod Openings
pub mod Dependencies
