-- What the functions of this crate answer. Assumes nothing.
pub mod Loaded
pub mod Numbers
