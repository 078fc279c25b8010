-- Laws that every crate may cite: Bools, choices, lists, tables of a function, parts, turns of a loop.
pub mod Bools
pub mod Choices
pub mod Lists
pub mod Tabs
pub mod Parts
pub mod Turns
