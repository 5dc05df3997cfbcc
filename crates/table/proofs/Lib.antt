-- Laws of the rows of a table, for the proofs of table reading. Assumes nothing.
pub mod Rows
