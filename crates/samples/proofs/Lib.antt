-- A full table reads, and the samples hold. Assumes nothing.
pub mod Full
pub mod Samples
