-- What the index of a table holds. Assumes nothing.
pub mod Codes
pub mod Index
pub mod Edges
pub mod Indexed
pub mod Built
pub mod Marks
