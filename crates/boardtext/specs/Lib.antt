-- What the programs begin with.
pub mod Begun
