-- What the calls of this crate do. Assumes nothing.
pub mod Units
