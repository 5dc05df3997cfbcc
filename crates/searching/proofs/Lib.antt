-- Laws for the proofs of the search's functions. Assumes nothing.
pub mod Searches
pub mod Jumps
pub mod Begins
