-- Demand 3 over lists of bounces on a book's surfaces and others, and what such a bounce is in air.
pub mod Demand3
pub mod Air
