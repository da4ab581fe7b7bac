-- Definitions that the contracts cite: what is carried from one message to the next, and how messages change it.
pub mod State
