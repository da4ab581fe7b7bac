-- Definitions that the contracts cite: settings, the messages that restate them, demand 3, and that it is not vacuous.
pub mod Settings
pub mod Limits
pub mod Messages
pub mod Demand
pub mod Witnesses
