-- Assumes nothing.
mod Counting
mod Powers
pub mod Text
