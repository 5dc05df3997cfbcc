-- Laws of the buffer that add writes to, and of what add answers. Assumes nothing.
pub mod Buffers
pub mod LastBlock
pub mod Results
pub mod Rows
