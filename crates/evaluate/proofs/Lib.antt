pub mod Same
pub mod Turns
pub mod Numbers
pub mod Table
pub mod Steps
