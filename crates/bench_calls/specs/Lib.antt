-- Definitions that the contracts cite: runs of calls, and the settings that are restated.
pub mod Runs
pub mod Bent
