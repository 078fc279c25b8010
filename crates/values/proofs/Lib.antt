pub mod Sums
pub mod Deciding
pub mod Dispatch
