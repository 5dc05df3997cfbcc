-- What the questions' areas hold. Assumes nothing.
pub mod Areas
pub mod Changes
