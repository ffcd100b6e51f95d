-- The laws that the proofs share, and the theorem over every list of calls.
pub mod Lists
pub mod Rows
pub mod Ids
pub mod Passed
pub mod Order
pub mod Sorted
pub mod Present
pub mod Current
pub mod Calls
pub mod Samples
