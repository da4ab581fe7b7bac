-- Definitions that the contracts cite: the messages of a zone, and the buffer that they are written to.
pub mod Zone
pub mod Claims
