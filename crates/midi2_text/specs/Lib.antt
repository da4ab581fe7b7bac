-- Definitions that the contracts cite: the text of two words, and the words of a cable.
pub mod Line
pub mod Cable
