-- The laws of a float's bit pattern.
pub mod FloatBits
