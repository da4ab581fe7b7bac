-- Definitions that the contract cites: a run of byte calls.
pub mod Runs
