-- Laws of tables under way. Assumes nothing.
pub mod Built
pub mod Pairs
pub mod Folds
