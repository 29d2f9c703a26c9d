-- Definitions that know nothing of a board.
pub mod Bit
