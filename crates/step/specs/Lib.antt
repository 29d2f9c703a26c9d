-- Signed steps, and the address of one byte of a side.
pub mod Step
