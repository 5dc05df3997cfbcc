-- The theory of the search: what its moves say, that it ends, and that its answers are right. Assumes nothing.
pub mod Lists
pub mod Literals
pub mod Tally
pub mod Limits
pub mod Count
pub mod Sizes
pub mod Moves
pub mod Rows
pub mod Fresh
pub mod Search
pub mod Same
pub mod Truth
pub mod Sound
pub mod Complete
pub mod Stays
pub mod Setting
pub mod Asked
