-- Laws of settings and of the messages that restate them, and then of what an end makes of these.
pub mod Allowed
pub mod Limits
pub mod Bytes
pub mod Counts
pub mod Received
pub mod Stage
pub mod Clear
pub mod Announce
pub mod Sense
pub mod Settle
pub mod Restated
pub mod Demand
pub mod Witnesses
