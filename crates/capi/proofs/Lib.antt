-- Laws of the calls.
mod Told
mod Passed
mod Drawn
mod Once
