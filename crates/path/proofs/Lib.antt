-- The laws, in the order in which they build on each other.
pub mod Outcome
pub mod Direction
pub mod OnSurface
pub mod Found
pub mod Checks
pub mod Weights
pub mod Sampled
pub mod Demand3
pub mod Air
pub mod Answers
pub mod Samples
pub mod WallSamples
pub mod AlongTheWall
mod ManyBounces
