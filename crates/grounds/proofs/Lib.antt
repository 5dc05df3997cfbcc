-- The sets at the slots of a clause's literals are what it rests on. Assumes nothing.
pub mod Slots
pub mod Rows
pub mod Puts
pub mod Grounds
