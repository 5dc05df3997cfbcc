-- Laws for the proofs of the functions. Assumes nothing.
pub mod Serving
pub mod Spending
pub mod Climbing
