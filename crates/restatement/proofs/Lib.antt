-- Laws that the writers' proofs cite.
pub mod Sets
mod Made
pub mod Reply
