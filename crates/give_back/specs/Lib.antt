-- What the contracts of `give_back` cite.
pub mod Giving
