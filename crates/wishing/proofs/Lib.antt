-- The theory of wishes: the subsets, an allowance spent on them, the walk through them, and what the call's answer means. Assumes nothing.
pub mod Subsets
pub mod Spends
pub mod Walks
pub mod Wishes
pub mod Truths
pub mod Calls
pub mod Numbers
pub mod Samples
