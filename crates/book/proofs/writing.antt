-- Laws of writing.
pub mod Checked
pub mod Left
pub mod Lengths
pub mod Finish
