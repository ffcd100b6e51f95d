-- The laws of rounding; those of a source module stand in its folder, beside the proofs of its functions.
pub mod Rounding
