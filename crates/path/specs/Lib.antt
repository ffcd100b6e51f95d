-- What the contracts of the crate cite, and what is proved of them over a list of bounces: definitions only, each with its source.
pub mod Path
pub mod Bounce
pub mod Answer
pub mod Known
pub mod Plain
pub mod Many
pub mod Reckoning
pub mod Demand3
pub mod AlongTheWall
pub mod Air
pub mod Samples
