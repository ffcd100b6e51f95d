-- What the contracts and statements of the crate cite: definitions only, each with its source.
pub mod Float
pub mod SquareRoot
pub mod RootDigits
pub mod RootSteps
