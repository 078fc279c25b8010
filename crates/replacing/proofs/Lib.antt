-- What belongs to no one function.

pub mod Swaps
pub mod Replacings
