-- Laws for the proofs of decide's functions. Assumes nothing.
pub mod Settings
pub mod Solves
pub mod Answers
