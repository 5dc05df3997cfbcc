-- The samples of the scope paper (01). Assumes nothing.
pub mod Samples
