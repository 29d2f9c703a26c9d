-- Laws of a block.
pub mod Byte
pub mod Bytes
pub mod Fold
pub mod None
pub mod Place
pub mod Sizes
mod Once
