-- The laws stand in rooms: those of a source module in its folder, beside the proofs of its functions.
pub mod Samples
