-- Laws of lists of indices, what follows from answers, and that a table's searches give such answers. Assumes nothing.
pub mod Indices
pub mod Answers
pub mod Settings
