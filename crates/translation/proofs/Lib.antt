pub mod Cleared
pub mod Translated
