-- Definitions that the contracts cite.
pub mod Decimal
pub mod Line
pub mod Claims
