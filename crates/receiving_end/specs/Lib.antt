-- Definitions that the contracts cite: the end, and lists of calls.
pub mod End
pub mod Lists
pub mod WellFormed
pub mod Ratio
pub mod System
