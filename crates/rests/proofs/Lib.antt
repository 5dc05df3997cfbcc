-- The operations on what literals rest on are operations on words; what is put at a later slot changes no earlier one. Assumes nothing.
pub mod Words
pub mod Held
