-- Laws of counting, for the proofs of the functions. Assumes nothing.
pub mod Sizes
pub mod Counts
