-- The mapped rebuild, what it promises, and samples. Assumes nothing.
pub mod Rebuild
pub mod Promised
pub mod Samples
