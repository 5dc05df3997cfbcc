-- Laws of truth under a setting, and of finding it node by node, for the proofs of the functions. Assumes nothing.
pub mod Truths
pub mod Levels
pub mod Says
pub mod Low
pub mod Settings
pub mod Filling
pub mod Answers
