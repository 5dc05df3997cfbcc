-- What the reader's functions ask and leave, and the reader's own contract. Assumes nothing.
pub mod Clauses
pub mod Reads
