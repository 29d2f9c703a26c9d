-- The blitter's state.
pub mod State
