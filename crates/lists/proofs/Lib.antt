-- The proofs: runs by the board's own calls, what they touch, a list's blocks, both theorems, and both at one list.
pub mod Runs
pub mod Touch
pub mod Blocks
pub mod Theorem
pub mod Instance
