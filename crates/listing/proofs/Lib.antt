pub mod Decimals
pub mod Texts
pub mod Lines
pub mod Lengths
pub mod Answering
pub mod Worked
