-- Laws of bytes.
pub mod Places
pub mod Laid
pub mod Same
pub mod Sets
