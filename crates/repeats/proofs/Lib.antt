-- Laws of keys and of chains, for the proofs of this crate and of the crates above. Assumes nothing.
pub mod Keys
pub mod Chains
