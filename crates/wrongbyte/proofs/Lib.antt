-- One wrong byte: what refuses it. Assumes nothing.
pub mod Files
pub mod Refusals
pub mod Calls
