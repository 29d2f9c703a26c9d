-- How bytes are printed, and how many.
pub mod Counts
pub mod Hex
pub mod Listed
