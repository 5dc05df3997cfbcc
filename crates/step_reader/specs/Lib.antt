-- What a reader of a derivation hands out. Assumes nothing.
pub mod Handed
