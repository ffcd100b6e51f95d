-- The laws of a chain of checks, and of the numbers.
pub mod Checks
pub mod Numbers
