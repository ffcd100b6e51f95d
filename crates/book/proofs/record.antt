-- Laws of records.
pub mod Part
pub mod Made
