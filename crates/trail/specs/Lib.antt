-- What the trail of a work area holds. Assumes nothing.
pub mod Trail
