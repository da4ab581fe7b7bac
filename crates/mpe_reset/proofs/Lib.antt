-- Laws that the proofs cite.
pub mod Named
pub mod Masks
