-- What the contracts of `replace_in` cite.
pub mod Words
