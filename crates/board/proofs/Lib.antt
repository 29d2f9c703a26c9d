-- Laws of the board.
pub mod Answer
pub mod Sound
pub mod Pieces
mod Once
