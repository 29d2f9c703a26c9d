-- One overlay line, drawn.
pub mod Pixels
pub mod Draw
pub mod Reads
pub mod Fills
