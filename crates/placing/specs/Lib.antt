pub mod Lists
pub mod States
