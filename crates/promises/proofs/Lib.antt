-- The page of statements, and what it is made of: the cases, the calls of evaluate; and what is not promised.
pub mod Answering
pub mod Calls
pub mod Cases
pub mod Promises
pub mod NotPromised
