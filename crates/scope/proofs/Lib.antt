-- Laws of the definitions, for the proofs of the crates above. Assumes nothing.
pub mod First
pub mod Tests
pub mod Lists
pub mod Operands
pub mod Records
pub mod Seals
pub mod Units
pub mod Checks
