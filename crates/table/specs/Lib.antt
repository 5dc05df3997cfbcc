pub mod Counted
pub mod Own
