-- The proofs: a block of mode 5 as exclusive ors, both laws by the board's runs, and both at two lists with every number written out.
pub mod Xors
pub mod Theorem
pub mod Instance
