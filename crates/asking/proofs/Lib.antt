-- From a readable table to the search: its nodes and their index, and what the search's answers mean. Assumes nothing.
pub mod Models
pub mod Lends
pub mod Nodes
pub mod Reaches
pub mod Finals
pub mod Answers
