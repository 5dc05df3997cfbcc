-- What the functions on the body's words answer. Assumes nothing.
pub mod Words
