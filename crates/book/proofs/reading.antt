-- Laws of reading.
pub mod Given
pub mod Rest
pub mod Stored
