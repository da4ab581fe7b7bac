-- Laws that proofs of this crate and of those above it cite.
pub mod Zones
pub mod Entered
