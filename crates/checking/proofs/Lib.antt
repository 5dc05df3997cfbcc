-- Laws for the proofs of check's functions. Assumes nothing.
pub mod Nodes
pub mod Same
pub mod Answers
