-- A lookup in two steps, so that spectra of one spacing which are read at one wavelength find its place among the grid points once: a form that serves speed alone.
-- Read from that place, a spectrum gives what its lookup gives (`sample_from_point`, proofs/dense_spectrum/SampleFrom.antt). Definitions only.
use Rattle.std.specs.Prelude.{◌-◌, Float, cond, List}
use Rattle.std.specs.Float.Ieee.{eq}
use Rattle.floats.specs.Float.{f0}
use Rattle.numbers.specs.DenseSpectrum.{terminated, upper_point, upper_lambda, upper_weight, entry, interpolate}
pub use Rattle.numbers.specs.declared.dense_spectrum.GridPoint.{GridPoint}
use Rattle.numbers.specs.declared.dense_spectrum.GridPoint.TheVariants.{Ended, At, Between}

unfoldable pub grid_point : Float → Float → GridPoint
grid_point step lambda =
    cond (eq lambda terminated) Ended
    (cond (eq lambda (upper_lambda step lambda)) (At (upper_point step lambda))
    (Between (upper_point step lambda) (upper_weight step lambda)))

unfoldable pub sample_from : List Float → GridPoint → Float
sample_from values Ended = f0
sample_from values (At b1) = entry values b1
sample_from values (Between upper weight) = interpolate weight (entry values (upper - 1)) (entry values upper)
