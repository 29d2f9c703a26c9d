-- Laws of a frame's words.
pub mod Same
pub mod Crossing
mod Once
