-- What a wrong byte brings from every call. Assumes nothing.
pub mod Wrong
pub mod Samples
