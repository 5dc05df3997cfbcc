-- What the call's functions leave, and the call's own contract. Assumes nothing.
pub mod Wishes
