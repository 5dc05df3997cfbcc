-- The jumping search answers as the plain order does, and makes no more splits. Assumes nothing.
pub mod Truths
pub mod Clauses
pub mod Claims
pub mod Jumps
pub mod Moves
pub mod Same
pub mod Answers
