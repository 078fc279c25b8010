pub mod Lists
pub mod Chains
