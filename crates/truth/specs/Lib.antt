pub mod Evaluated
