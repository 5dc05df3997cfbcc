-- The definition of overview, and its contract. Assumes nothing.
pub mod Overview
pub mod Overviews
pub mod Samples
