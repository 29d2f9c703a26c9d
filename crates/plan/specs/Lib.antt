-- Plans: the items, what they mean, the bytes of their list, and compiling.
pub mod Plan
pub mod Rules
pub mod Xdl
pub mod Compile
pub mod Meaning
