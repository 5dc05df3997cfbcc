-- Laws for the proofs of overview's functions. Assumes nothing.
pub mod Puts
pub mod Answers
