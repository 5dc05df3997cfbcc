-- The calls for questions under one allowance, and what they promise. Assumes nothing.
pub mod Rooms
pub mod Calls
pub mod Course
