-- What the contracts of the crate cite: definitions only, each with its source.
pub mod Color
pub mod Spectra
pub mod Surface
pub mod Facets
pub mod Fresnel
pub mod Sampler
pub mod Bxdf
pub mod Density
pub mod SharedTerms
pub mod Known
pub mod Check
pub mod F64
pub mod Air
pub mod Samples
