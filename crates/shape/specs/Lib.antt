pub mod Forms
pub mod Room
pub mod Lines
