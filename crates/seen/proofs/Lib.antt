-- Laws for the functions of `seen`. Assumes nothing.
pub mod States
