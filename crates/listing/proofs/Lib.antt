-- Laws of the listing's words and lines. Assumes nothing.
pub mod Words
