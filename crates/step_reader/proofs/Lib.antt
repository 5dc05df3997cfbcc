-- What a reader hands out, in the terms of `decode_steps`. Assumes nothing.
pub mod Steps
pub mod Looks
