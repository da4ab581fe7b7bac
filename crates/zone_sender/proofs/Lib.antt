-- Laws that proofs of this crate and of those above it cite.
pub mod Groups
mod Order
