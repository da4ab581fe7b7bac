-- Laws that proofs of this crate cite.
pub mod Words
pub mod Lent
