-- What the listing program's functions leave. Assumes nothing.
pub mod Lines
