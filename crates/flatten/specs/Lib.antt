-- What the contracts of `flatten` cite.
pub mod Flattening
