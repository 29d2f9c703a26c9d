-- A lent buffer of words, as include/deskboard.h says it.
pub mod Words
