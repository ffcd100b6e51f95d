-- The laws, in the order in which they build on each other.
pub mod Cosine
pub mod SharedTerms
pub mod Samples
pub mod SampledNormal
pub mod Fresnel
pub mod AnyCosine
pub mod FresnelSign
pub mod Glass
pub mod Shadowing
pub mod Spectra
pub mod Outer
pub mod Air
pub mod Densities
