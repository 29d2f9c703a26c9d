-- Laws of the mode table.
pub mod Laws
mod Once
mod Ranges
