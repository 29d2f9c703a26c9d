-- Laws of plans.
pub mod Records
pub mod Walk
pub mod Valid
pub mod Rules
mod Checking
mod Writing
pub mod Compiling
pub mod Refused
pub mod Before
pub mod Apart
mod Cases
mod Once
mod Refusing
