-- Laws of a block's tests, for the proofs of the functions. Assumes nothing.
pub mod Zeros
pub mod Heading
pub mod Verdicts
