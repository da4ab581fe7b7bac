-- Definitions that the contracts cite: the messages of a sender.
pub mod Writers
pub mod Claims
