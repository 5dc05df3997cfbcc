-- What is said of the goals that a derivation names. Assumes nothing.
pub mod Named
