-- The desk board: its registers, and what each call answers.
pub mod Ports
pub mod Board
