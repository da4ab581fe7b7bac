-- Definitions that the contracts cite: what the writer of a setup file answers.
pub mod Reply
