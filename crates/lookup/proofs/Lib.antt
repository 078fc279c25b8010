pub mod Filled
pub mod Chains
