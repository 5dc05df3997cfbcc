-- What a host is told. Assumes nothing.
pub mod Hosts
