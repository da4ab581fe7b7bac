-- Laws that the proofs cite, and the proofs of the claims of specs/.
pub mod Order
pub mod Search
pub mod Ranks
pub mod Read
pub mod Noted
pub mod Counts
pub mod Storing
pub mod Filled
pub mod Examples
