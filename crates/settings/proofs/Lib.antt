-- Laws of the settings.
pub mod Steps
pub mod Sound
mod Once
