pub mod Accepting
pub mod Loading
