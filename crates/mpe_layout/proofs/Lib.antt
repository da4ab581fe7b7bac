-- Laws that proofs of this crate and of those above it cite.
pub mod Legal
pub mod Roles
pub mod Mcm
pub mod Occupied
pub mod Entries
