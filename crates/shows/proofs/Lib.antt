-- The proof of demand 3: the board's side, memory, a frame's lines, one record, a plan's items; the theorem, and two plans with every number written out.
pub mod Pointed
pub mod Holding
pub mod Seen
pub mod Reading
pub mod Walk
pub mod Theorem
pub mod Instance
