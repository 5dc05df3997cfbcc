-- What the functions of the writing pass leave. Assumes nothing.
pub mod Trace
