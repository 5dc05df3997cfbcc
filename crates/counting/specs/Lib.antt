-- What counting comes to. Assumes nothing.
pub mod Count
