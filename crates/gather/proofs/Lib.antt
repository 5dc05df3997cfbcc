-- Laws of gathering steps, for the proofs of this crate and of those above it. Assumes nothing.
pub mod Keeps
pub mod Pushes
pub mod Removes
pub mod Names
