pub mod Fits
pub mod Layouts
