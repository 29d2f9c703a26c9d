-- Laws of a tick and a run.
pub mod Tick
pub mod Runs
mod Following
mod Reaching
mod Strokes
mod Steps
mod Bursts
mod FlatBursts
mod Going
pub mod Machine
pub mod Whole
pub mod Bytes
pub mod Pieces
pub mod Once
pub mod Answer
