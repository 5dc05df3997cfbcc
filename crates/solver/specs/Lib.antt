-- What each of the solver's functions leaves. Assumes nothing.
pub mod Changes
