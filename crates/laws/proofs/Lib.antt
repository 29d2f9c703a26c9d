-- Laws that know nothing of a board, one file a subject.
pub mod Choice
pub mod Lent
pub mod Once
pub mod Xor
