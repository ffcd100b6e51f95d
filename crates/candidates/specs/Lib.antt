-- What the contracts of the crate cite, and the statement over every list of calls. Definitions only.
pub mod Candidate
pub mod Memory
pub mod Current
pub mod Samples
