-- Laws that the proofs cite.
pub mod Digits
pub mod Columns
pub mod Lines
pub mod Texts
