-- The laws of a spectrum: what holds of every entry, whole numbers and the least one from a value up, that one without a cast, the lookup between entries, and a lookup from a place that was found before.
pub mod Every
pub mod WholePart
pub mod SmallCeiling
pub mod Interpolation
pub mod Spacing
pub mod SampleFrom
