-- What the contracts of the crate cite: definitions only.
pub mod Answers
pub mod Digits
pub mod Faults
pub mod Line
pub mod Output
pub mod Records
pub mod Words
