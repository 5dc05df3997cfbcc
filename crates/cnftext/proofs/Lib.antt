-- Laws of the scan. Assumes nothing.
pub mod Parts
pub mod Clauses
pub mod Headings
