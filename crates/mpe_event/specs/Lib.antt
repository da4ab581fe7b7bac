-- Definitions that the contracts cite.
pub mod Update
pub mod Claims
