-- What the theorems about tables and their bytes speak of. Assumes nothing.
pub mod Valid
pub mod Given
