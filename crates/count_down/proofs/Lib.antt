pub mod Downs
