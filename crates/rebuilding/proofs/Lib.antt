-- What a rebuilt literal means, and where a rebuild ends. Assumes nothing.
pub mod Logics
pub mod Means
pub mod Steps
pub mod Kept
pub mod Rebuilding
