-- What a reader must believe, in the order of the scope paper (01). Assumes nothing.
pub mod Outcome
pub mod Block
pub mod Table
pub mod Truth
pub mod Kleene
pub mod Calls
pub mod OneByte
