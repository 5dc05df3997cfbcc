-- Laws of the checker's branches. Assumes nothing.
pub mod Offsets
pub mod Appends
pub mod Marks
pub mod Scans
pub mod Branches
pub mod Turns
pub mod Starts
