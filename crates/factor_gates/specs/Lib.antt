-- What the contracts of `factor_gates` cite.
pub mod Passing
