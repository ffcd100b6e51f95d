-- What the contracts of the crate cite: how the definitions of the crates below are laid out for C. Definitions only.
pub mod Results
pub mod Surfaces
pub mod Paths
pub mod Lists
pub mod Calls
pub mod Demand3
pub mod Books
