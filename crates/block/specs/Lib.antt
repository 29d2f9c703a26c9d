-- The 21 bytes of a block, and its n-th byte.
pub mod Block
pub mod Fold
pub mod Byte
