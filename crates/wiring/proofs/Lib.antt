pub mod Wires
pub mod Reaches
