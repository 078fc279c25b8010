-- What belongs to no one function.

pub mod Places
pub mod Gates
pub mod Walks
pub mod Stated
