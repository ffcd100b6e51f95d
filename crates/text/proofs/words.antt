-- Laws of the words of a line.
pub mod Places
