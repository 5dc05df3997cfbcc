-- Laws of writing a block, for the proofs of the functions and of the crates above. Assumes nothing.
pub mod Copies
pub mod Seals
pub mod Grows
pub mod Parts
