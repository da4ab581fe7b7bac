-- Definitions that the contract cites: a run of translations.
pub mod Runs
