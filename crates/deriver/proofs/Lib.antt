-- Laws for the proofs of derive's functions. Assumes nothing.
pub mod Same
pub mod Produces
pub mod Answers
