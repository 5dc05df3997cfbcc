-- Laws of the work area. Assumes nothing.
pub mod Areas
pub mod Values
pub mod Joins
pub mod Clauses
pub mod Idle
