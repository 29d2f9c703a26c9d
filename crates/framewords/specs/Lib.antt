-- A line's settings and a frame as words, as include/deskboard.h orders them.
pub mod Frame
