-- What the search's functions leave. Assumes nothing.
pub mod Search
pub mod Jumps
