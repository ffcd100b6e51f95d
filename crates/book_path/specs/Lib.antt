-- Bounces on the surfaces of a material book, demand 3 over lists of them, and what they are in air. Definitions only.
pub mod BookBounce
pub mod Demand3
pub mod Air
