pub mod Countings
