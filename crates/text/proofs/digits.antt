-- Laws of digits.
pub mod Glyphs
pub mod Values
