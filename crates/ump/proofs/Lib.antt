-- Laws that proofs of this crate and of those above it cite.
pub mod Auto
pub mod Cases
pub mod Below
pub mod Cut
pub mod Mask
pub mod Words
