-- What the contracts of `tables` cite.
pub mod Layout
pub mod Building
pub mod Holding
pub mod Working
