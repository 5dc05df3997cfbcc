-- The derivation checker's work area: where everything stands, and what each store leaves. Assumes nothing.
pub mod Area
pub mod Strikes
