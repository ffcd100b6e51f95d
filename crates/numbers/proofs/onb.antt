-- The laws of the basis around a normal.
pub mod LocalBasis
