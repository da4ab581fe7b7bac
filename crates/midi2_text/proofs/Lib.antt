-- Laws that the proofs cite.
pub mod Words
pub mod Answered
