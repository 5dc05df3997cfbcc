-- What the functions that add a file's nodes are given. Assumes nothing.
pub mod Built
