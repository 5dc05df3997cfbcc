-- Laws of the trail, for every work area that has one. Assumes nothing.
pub mod Codes
pub mod Trails
pub mod Joins
pub mod Leaves
