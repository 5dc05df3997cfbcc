-- Which literals are put, and what is asked of an answer. Assumes nothing.
pub mod Indices
pub mod Asking
