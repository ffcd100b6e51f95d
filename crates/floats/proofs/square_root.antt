-- The laws of the square root, in the order in which they build on each other.
pub mod WholeRoot
pub mod LeadingDigits
pub mod RootDigits
pub mod RootBits
pub mod RootOperand
pub mod NearestByParts
pub mod RootOrZero
pub mod NearestRoot
pub mod Processor
