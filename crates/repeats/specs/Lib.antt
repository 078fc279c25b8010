-- What the contracts of `repeats` cite.
pub mod Reading
