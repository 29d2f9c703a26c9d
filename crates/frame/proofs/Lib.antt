-- Laws of the frame.
pub mod Cases
pub mod Sound
pub mod Lines
pub mod Origin
mod Once
