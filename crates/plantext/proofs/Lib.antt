-- Laws of the text.
mod Counting
mod Line
mod Listing
mod Once
