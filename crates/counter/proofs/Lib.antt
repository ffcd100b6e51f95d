-- The law of the crate.
pub mod Air
