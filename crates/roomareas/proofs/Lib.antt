-- Laws for the proofs of the functions. Assumes nothing.
pub mod Parts
pub mod Lends
pub mod Sitting
pub mod Resting
