-- Laws of the derivation checker's work area. Assumes nothing.
pub mod Trails
pub mod Packed
pub mod Strikes
pub mod Stores
pub mod Remains
