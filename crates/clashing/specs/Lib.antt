-- The definition of clash, what its functions leave, and its own contract. Assumes nothing.
pub mod Clash
pub mod Walks
pub mod Clashes
pub mod Samples
