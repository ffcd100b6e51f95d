-- Laws of bit patterns.
pub mod OneNan
