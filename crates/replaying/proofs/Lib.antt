-- Laws for the proofs of the functions. Assumes nothing.
pub mod Stacks
pub mod Standings
pub mod Rights
