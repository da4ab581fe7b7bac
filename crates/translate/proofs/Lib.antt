-- Laws that proofs of this crate and of those above it cite.
pub mod Bits
pub mod Each
pub mod Given
pub mod Refused
pub mod Kept
pub mod Always
pub mod Messages
pub mod Reached
pub mod Exact
pub mod Passing
pub mod Entries
pub mod Rules
