-- Laws of texts: their parts, what their words say, and what is written of a file and read back.
pub mod Parts
pub mod Limits
pub mod DigitCounts
pub mod Spoken
pub mod TextBack
pub mod FileBack
pub mod Form
pub mod Examples
pub mod Faults
