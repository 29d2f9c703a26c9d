-- Laws of a stretch of bytes.
pub mod Strokes
mod Single
pub mod Places
mod Levels
mod Painting
mod Passing
mod FlatWhole
pub mod Fitting
mod Whole
pub mod Once
