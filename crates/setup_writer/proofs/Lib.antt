-- Laws that more than one proof cites.
pub mod Entries
pub mod Sizes
pub mod Replies
