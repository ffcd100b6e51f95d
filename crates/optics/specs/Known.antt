-- What a call finds of a surface's spectra once, for all that it reads of them: a form that serves speed alone. Definitions only.
use Rattle.std.specs.Prelude.{List, Float}
use Rattle.numbers.specs.DenseSpectrum.{step_of, is_constant}
use Rattle.optics.specs.Surface.{medium, constant_eta}
pub use Rattle.optics.specs.declared.microfacet.{Reading.Reading, Known.Known}

unfoldable pub reading_on_glass : List Float → List Float → Reading
reading_on_glass eta outer = record { step = step_of eta; outer_constant = is_constant outer }

unfoldable pub known_on_glass : List Float → List Float → Known
known_on_glass eta outer = record { reading = reading_on_glass eta outer; eta_constant = constant_eta eta (medium outer) }
