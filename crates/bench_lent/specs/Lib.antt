-- Definitions that the contracts cite: replies as numbers.
pub mod Code
