pub mod Filling
pub mod States
