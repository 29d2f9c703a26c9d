-- The frame and its 240 lines.
pub mod Frame
