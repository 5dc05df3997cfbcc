-- What the solver's work area holds. Assumes nothing.
pub mod Work
pub mod Holds
pub mod Changes
pub mod Picked
