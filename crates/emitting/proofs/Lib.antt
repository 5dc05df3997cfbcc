-- Laws for the proofs of the writing pass. Assumes nothing.
pub mod Steps
pub mod Runs
