-- Definitions that the contracts cite: how far a file has been read.
pub mod Progress
