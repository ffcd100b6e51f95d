-- A material book (document 02, vi): its bytes, its surfaces, what reading and writing answer, and what is proved of the two. Definitions only.
pub mod Bytes
pub mod Layout
pub mod Surfaces
pub mod Book
pub mod Record
pub mod Steps
pub mod RoundTrips
pub mod Samples
