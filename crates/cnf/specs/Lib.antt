-- Request 01, DIMACS files: what a reader must believe, in the order of the request. Assumes nothing.
pub mod Text
pub mod Fold
pub mod Meaning
pub mod Reader
pub mod Samples
