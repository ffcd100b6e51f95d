-- Laws of an output.
pub mod Put
