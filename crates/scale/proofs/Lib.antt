-- Laws that proofs of this crate and of those above it cite.
pub mod Range
pub mod Repeat
pub mod Widen
pub mod Claims
