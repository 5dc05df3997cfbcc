-- What a reader must believe of the solver, in the order of the scope paper (01). Assumes nothing.
pub mod Expansion
pub mod Order
pub mod Model
pub mod Agree
pub mod Count
pub mod Mixed
pub mod Jump
pub mod Decide
