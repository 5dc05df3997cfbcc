-- Laws of the index, for the proofs of the functions and of the crates above. Assumes nothing.
pub mod Nodes
pub mod Stays
pub mod Sums
pub mod Copies
pub mod Counts
pub mod Rooms
pub mod Fills
pub mod Wholes
pub mod Chains
pub mod Marks
pub mod Falls
