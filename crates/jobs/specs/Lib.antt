-- What the contracts of the crate cite: definitions only.
pub mod Held
pub mod Making
pub mod Surface
