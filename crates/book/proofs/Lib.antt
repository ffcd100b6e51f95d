-- The laws, in the order in which they build on each other. Those of a source module stand in its folder, beside the proofs of its functions.
pub mod Over
pub mod Doubles
pub mod SameValue
pub mod Surfaces
pub mod Records
pub mod Repetition
pub mod RoundTrips
pub mod Samples
