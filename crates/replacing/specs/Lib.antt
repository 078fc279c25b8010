-- What the contracts of `replacing` cite.
pub mod Swapped
