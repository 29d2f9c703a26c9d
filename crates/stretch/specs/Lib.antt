-- A stretch of bytes.
pub mod Stretch
pub mod Flat
