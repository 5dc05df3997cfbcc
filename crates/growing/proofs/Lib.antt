-- Laws of the numbers, the chains and the table under way. Assumes nothing.
pub mod Chains
pub mod Nodes
pub mod Blocks
