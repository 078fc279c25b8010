pub mod Listed
pub mod Shows
pub mod Printed
pub mod Entry
