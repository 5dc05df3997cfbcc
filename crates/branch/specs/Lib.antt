-- What the derivation checker's work area says of a derivation under way. Assumes nothing.
pub mod Clauses
pub mod Holds
