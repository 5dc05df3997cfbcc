-- The clauses of a literal, and what its code says of them. Assumes nothing.
pub mod Templates
pub mod Literals
pub mod Coded
pub mod Classed
