-- What belongs to no one function.
pub mod Slots
pub mod Tallies
pub mod Walks
pub mod Picking
pub mod Loads
