-- What the contracts of `factoring` cite.
pub mod Turned
