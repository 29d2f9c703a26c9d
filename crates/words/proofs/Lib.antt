-- Laws of words.
pub mod Within
pub mod Laid
pub mod Filled
mod Once
