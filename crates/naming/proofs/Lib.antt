-- Laws for the functions of `naming`. Assumes nothing.
pub mod Heads
