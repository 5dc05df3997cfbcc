-- What opening a derivation answers. Assumes nothing.
pub mod Opened
