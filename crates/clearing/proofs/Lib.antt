pub mod Blocks
pub mod Zeros
