-- Definitions that the contracts cite.
pub mod Zones
pub mod WellFormed
pub mod Claims
