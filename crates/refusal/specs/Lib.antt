-- The refusal sheet.
pub mod Sheet
