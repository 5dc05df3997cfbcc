-- A table under way as numbers, and what one node more comes to. Assumes nothing.
pub mod Chains
pub mod Growing
