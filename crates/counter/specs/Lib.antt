-- What the contracts of the crate cite, and what is proved of it in air: definitions only.
pub mod Counter
pub mod Air
