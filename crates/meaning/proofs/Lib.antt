-- Demand 3 on the definitions of the calls: what decide, derive and check answer is right. Assumes nothing.
pub mod Decisions
pub mod Derivations
pub mod Numbers
