-- Laws for the proofs of the functions, and what the calls promise of a course. Assumes nothing.
pub mod Alike
pub mod Same
pub mod Rows
pub mod Goes
pub mod Ends
pub mod Courses
