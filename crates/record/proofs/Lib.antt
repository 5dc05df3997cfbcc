-- Laws of the definitions that the proofs of this crate lean on. Assumes nothing.
pub mod Cases
pub mod Rows
pub mod Halves
