pub mod Small
pub mod Exporting
