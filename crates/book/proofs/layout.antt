-- The laws of the layout: numbers in four bytes, one part, what a book's bytes say of its parts, and the test of it pair by pair.
pub mod Words
pub mod OnePart
pub mod Parts
pub mod PairByPair
