-- What the checking program prints. Assumes nothing.
pub mod Said
