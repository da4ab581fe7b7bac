-- Definitions that the contracts cite: the text form of a setup file, what a text says or which line is refused, and what holds of all texts.
pub mod Text
pub mod Parse
pub mod Claims
pub mod Examples
