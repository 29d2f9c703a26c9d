-- Laws of the items of a plan.
pub mod Ranges
pub mod Taken
pub mod Told
mod Once
