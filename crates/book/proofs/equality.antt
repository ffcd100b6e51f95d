-- Laws of equality.
pub mod OfParts
pub mod OfSurfaces
