-- What belongs to no one function.
pub mod Growings
pub mod Wholes
