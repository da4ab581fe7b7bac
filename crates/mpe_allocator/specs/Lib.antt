-- Definitions that the contracts cite, and what is proved of lists of calls.
pub mod Choice
pub mod Claims
pub mod Allocator
pub mod Calls
pub mod Stored
pub mod Filling
pub mod Examples
