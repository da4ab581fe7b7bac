-- Laws that proofs of this crate and of those above it cite.
pub mod Given
pub mod Bytes
pub mod Messages
pub mod Parts
pub mod Receive
pub mod Numbers
pub mod Always
pub mod Ratio
pub mod System
