-- Laws of a record.
pub mod Readback
pub mod Sound
pub mod Kept
mod Once
