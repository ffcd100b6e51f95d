-- What the contracts of the crate cite: definitions only.
pub mod Numbers
pub mod Store
