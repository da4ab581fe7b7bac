-- Definitions that the contracts cite: how far a text has been read.
pub mod Progress
