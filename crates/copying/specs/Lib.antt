-- What the contracts of `copying` cite.
pub mod Copies
