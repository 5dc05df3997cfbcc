-- Laws of numbers and of words. Assumes nothing.
pub mod Numbers
pub mod Words
pub mod Runs
