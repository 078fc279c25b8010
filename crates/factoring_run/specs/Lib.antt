-- What the contracts of `factoring_run` cite.
pub mod Running
