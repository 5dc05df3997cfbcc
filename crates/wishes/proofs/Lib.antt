-- What the call's contracts come to at each return. Assumes nothing.
pub mod Lists
pub mod Ends
pub mod Answers
