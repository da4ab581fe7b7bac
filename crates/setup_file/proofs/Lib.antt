-- Laws of the setup file and of settings in it.
pub mod Outcomes
pub mod Entries
pub mod Taken
pub mod ReadBack
pub mod Rewritten
pub mod OnlyForm
pub mod Course
pub mod Seen
pub mod Leftmost
pub mod Examples
pub mod Printable
pub mod Rest
