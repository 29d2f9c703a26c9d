-- A pointer drawn, and taken away by drawing it again.
pub mod Pointer
