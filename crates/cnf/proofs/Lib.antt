-- The theorems, in the order in which each leans on those before it. Assumes nothing.
pub mod Outcomes
pub mod Records
pub mod Puts
pub mod Means
pub mod Clauses
pub mod Builds
pub mod Texts
pub mod Reader
