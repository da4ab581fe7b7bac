-- Laws that proofs of this crate and of those above it cite.
pub mod Allowed
pub mod Excess
pub mod Flags
pub mod Kept
