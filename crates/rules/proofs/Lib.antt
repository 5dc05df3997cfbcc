-- The theory of derivations: what is accepted is true, the solver's own derivation is accepted, and files can hold it. Assumes nothing.
pub mod Laws
pub mod Names
pub mod Sound
pub mod Accepts
pub mod Steps
pub mod Earlier
pub mod Unnamed
pub mod OneGoal
