-- Laws of a line.
pub mod Numbers
pub mod Readings
pub mod Ends
