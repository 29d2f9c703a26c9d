-- Laws of the refusal sheet.
pub mod Sheet
