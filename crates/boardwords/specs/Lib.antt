-- A board as words, as include/deskboard.h orders them.
pub mod Board
