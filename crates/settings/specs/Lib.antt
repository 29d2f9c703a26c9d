-- The settings of a scanline, the same with other parts, and those of a band some lines below its first line.
pub mod Parts
pub mod Settings
pub mod Below
