-- Where a question's search stands. Assumes nothing.
pub mod Standing
