-- Definitions that the contracts cite: zones, roles and layouts.
pub mod Layout
pub mod Sheet
