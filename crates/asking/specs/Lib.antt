-- What a search is given. Assumes nothing.
pub mod Asks
pub mod Within
