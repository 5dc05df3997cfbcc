-- The published rules, and the checker's states, the solver's moves and the calls' bytes in their terms. Assumes nothing.
pub mod Published
pub mod Reading
pub mod Moves
pub mod Bytes
pub mod Samples
