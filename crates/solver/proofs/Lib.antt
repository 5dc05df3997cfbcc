-- Laws of the solver's state changes. Assumes nothing.
pub mod Marks
pub mod Fronts
pub mod Walks
pub mod Lives
pub mod Settles
pub mod Assumes
pub mod Undoes
pub mod Goals
