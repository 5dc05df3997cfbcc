-- What the clause of a move rests on, off the work area and the sets. Assumes nothing.
pub mod Ground
