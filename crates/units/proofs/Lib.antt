-- Laws of the set, for the proofs of the functions and of the crates above. Assumes nothing.
pub mod Bits
pub mod Sets
pub mod Firsts
pub mod Sizes
pub mod Drains
