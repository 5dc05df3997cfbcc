-- Check's own contract. Assumes nothing.
pub mod Nodes
pub mod Checks
