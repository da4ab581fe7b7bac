-- Laws that proofs of this crate and of those above it cite.
pub mod Slots
pub mod Activation
pub mod Sensitivity
pub mod WellFormed
