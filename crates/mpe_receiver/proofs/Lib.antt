-- Laws that proofs of this crate and of those above it cite.
pub mod Rest
pub mod Parts
pub mod Offsets
pub mod Ratio
pub mod WellFormed
pub mod Resets
pub mod Range
pub mod Bench
pub mod Stored
