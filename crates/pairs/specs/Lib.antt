-- What the contracts of `pairs` cite.
pub mod Lists
pub mod States
