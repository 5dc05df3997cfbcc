-- What a reader must believe of wishes: the questions and their order, k and u, the call; and the walk that puts the questions one by one.
-- Assumes nothing.
pub mod Wish
pub mod Call
pub mod Walk
