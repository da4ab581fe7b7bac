-- Definitions that the contracts cite, what is proved of them, and examples.
pub mod Scale
pub mod Claims
pub mod Examples
