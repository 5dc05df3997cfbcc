-- Laws of the clauses of a literal and of its code. Assumes nothing.
pub mod Lengths
pub mod Rows
pub mod States
pub mod Codes
pub mod Classes
pub mod Signs
