-- What a reader must believe of derivations, in the order of the scope paper (01). Assumes nothing.
pub mod Steps
pub mod Rules
pub mod Derivation
pub mod Derive
pub mod Earlier
pub mod Unnamed
pub mod OneGoal
