-- What the rules' functions of the derivation checker answer. Assumes nothing.
pub mod Ruled
