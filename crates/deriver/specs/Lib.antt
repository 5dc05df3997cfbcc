-- Derive's contract. Assumes nothing.
pub mod Derives
