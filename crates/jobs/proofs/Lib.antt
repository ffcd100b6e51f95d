-- The laws of what a job holds, and of the entries that a line leaves.
pub mod Held
pub mod Kept
pub mod Making
