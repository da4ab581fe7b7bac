-- Definitions that the contracts cite: the messages that select a parameter and change it.
pub mod Writers
