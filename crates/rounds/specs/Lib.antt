-- What a call makes of a round. Assumes nothing.
pub mod Spent
