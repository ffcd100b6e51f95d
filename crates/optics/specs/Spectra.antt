-- A surface's spectra, as `Spectra` of src/microfacet.rt is seen: the entries of each. Definitions only.
use Rattle.std.specs.Prelude.{List, Float}

pub record Spectra : Type 0 where
  pub eta : List Float
  pub k : List Float
  pub outer : List Float

abbrev pub spectra : List Float → List Float → List Float → Spectra
spectra eta k outer = record { eta = eta; k = k; outer = outer }
