-- Laws of the walk, what the goals kept are, and laws for the proofs of clash's functions. Assumes nothing.
pub mod Walks
pub mod Keeps
pub mod Copies
pub mod Turns
pub mod Answers
