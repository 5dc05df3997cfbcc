-- The checker's steps and the solver's moves are those of the published rules; and the rules as stated are sound. Assumes nothing.
pub mod Sound
pub mod Standing
pub mod Steps
pub mod Derivations
pub mod Answered
pub mod Moves
pub mod Versions
pub mod Calls
