-- Laws of the reader. Assumes nothing.
pub mod Keeping
pub mod Words
pub mod Joining
pub mod Reading
