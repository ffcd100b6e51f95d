-- The laws of vectors: bounds on their parts, directions, and vectors that are divided by their length.
pub mod Span
pub mod Direction
pub mod UnitVector
