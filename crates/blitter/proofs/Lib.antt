-- Laws of the blitter's state.
pub mod Sound
mod Once
