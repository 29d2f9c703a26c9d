-- Laws of a board's words.
pub mod Same
pub mod Crossing
mod Once
