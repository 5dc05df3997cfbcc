-- The theorems, in the order in which each leans on those before it. Assumes nothing.
pub mod Rows
pub mod Bytes
pub mod Blocks
pub mod Files
pub mod Records
pub mod Tables
pub mod Grows
pub mod Nodes
pub mod Used
pub mod Sorted
pub mod Normal
pub mod Adds
