pub mod Works
