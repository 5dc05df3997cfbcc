-- Laws of derivations in bytes, for the proofs of this crate and of those above it. Assumes nothing.
pub mod Form
pub mod Rows
pub mod Encode
pub mod Quick
