-- What a derivation writer keeps of the steps that were pushed. Assumes nothing.
pub mod Kept
