-- What the next move is read off, and the clause that it is on. Assumes nothing.
pub mod Place
