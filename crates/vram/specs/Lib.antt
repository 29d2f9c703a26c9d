-- Video memory, and installing a list into it.
pub mod Memory
pub mod Install
