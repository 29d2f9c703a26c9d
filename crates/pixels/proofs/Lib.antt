-- Laws about one overlay line, drawn.
pub mod Table
pub mod Counts
pub mod Each
pub mod Pixel
pub mod Inks
pub mod Scrolled
pub mod Answer
pub mod Bytes
pub mod Modes
pub mod Piece
pub mod Cases
pub mod Instance
pub mod Once
