-- What is printed of check's answer. Assumes nothing.
pub mod Said
