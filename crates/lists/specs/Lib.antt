-- What a run can touch, and when a list ends.
pub mod Bench
pub mod Touch
pub mod Ends
