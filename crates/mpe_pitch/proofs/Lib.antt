-- Laws that the proofs cite, and the proofs of the claims of specs/.
pub mod Round
pub mod Order
pub mod Offset
pub mod Remainder
