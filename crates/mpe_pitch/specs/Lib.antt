-- Definitions that the contracts cite, and what is proved of them.
pub mod Pitch
pub mod Remainder
pub mod Claims
