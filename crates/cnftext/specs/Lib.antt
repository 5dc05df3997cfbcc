-- What the functions on a text answer. Assumes nothing.
pub mod Scanned
