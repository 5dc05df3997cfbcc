-- Laws of the search for a node. Assumes nothing.
pub mod Finds
