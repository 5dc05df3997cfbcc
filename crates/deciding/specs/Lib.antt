-- What decide's functions leave, and decide's own contract. Assumes nothing.
pub mod Setting
pub mod Decides
