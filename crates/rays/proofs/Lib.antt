-- The laws of the paths that a job holds.
pub mod Paths
