-- What the contracts of the crate cite: definitions only, each with its source.
pub mod Refusal
pub mod Vec2
pub mod Vec3
pub mod Complex
pub mod Onb
pub mod SphericalUtils
pub mod DenseSpectrum
pub mod GridPoint
pub mod Checked
pub mod Written
pub mod Samples
