-- What the walk's contracts come to at each return. Assumes nothing.
pub mod Opposites
pub mod Refusals
pub mod Laws
