-- The search that jumps over splits, run on a sample. Assumes nothing.
pub mod Samples
