pub mod Tables
pub mod Remapping
