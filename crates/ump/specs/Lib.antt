-- Definitions that the contracts cite: the vocabulary of every crate, and what a message word is.
pub mod Choice
pub mod Outcome
pub mod Field
pub mod Packet
pub mod Word
pub mod Controller
