-- Definitions that the contracts cite: the setup file, what it says or why it is refused, and what holds of all files.
pub mod Format
pub mod Read
pub mod Claims
pub mod Examples
