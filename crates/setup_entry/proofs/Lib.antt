-- Laws of the entries that follow one that is taken.
pub mod Onward
