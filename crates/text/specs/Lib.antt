-- What the programs for people write, as bytes. Assumes nothing.
pub mod Counts
pub mod Digits
pub mod Text
pub mod Listing
