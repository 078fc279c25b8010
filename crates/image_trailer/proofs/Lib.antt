pub mod Fourths
