-- What the contracts of `best_pair` cite.
pub mod Search
