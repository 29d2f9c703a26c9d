-- Laws of video memory.
pub mod Length
pub mod ReadBack
pub mod Blank
mod Once
