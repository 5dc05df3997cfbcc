-- What a clause of the checker's work area is under the literals held. Assumes nothing.
pub mod Seen
