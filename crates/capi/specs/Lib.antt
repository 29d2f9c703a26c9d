-- The calls for C and Rust.
pub mod Calls
