-- Laws of the moves. Assumes nothing.
pub mod Tests
pub mod Moves
pub mod Reasons
