-- One record of the display list.
pub mod Parts
pub mod Record
pub mod Counters
