-- Laws of the steps and of an address.
pub mod Laws
pub mod Further
mod Once
