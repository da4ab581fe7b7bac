-- Definitions that the contracts cite.
pub mod State
pub mod Receive
pub mod Read
pub mod WellFormed
pub mod Claims
pub mod Ratio
pub mod Bench
