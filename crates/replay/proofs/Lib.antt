-- Laws of the derivation checker's rules, for the functions' proofs. Assumes nothing.
pub mod Told
pub mod Ruled
pub mod Rules
pub mod Two
pub mod Runs
