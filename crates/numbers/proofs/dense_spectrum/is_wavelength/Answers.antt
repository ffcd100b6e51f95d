-- `numbers::dense_spectrum::is_wavelength` meets its contract: the calls give what their contracts promise, and the definition is read in the same order.
use Rattle.std.specs.Float.Ieee.{of_bits}
use Rattle.numbers.specs.DenseSpectrum.{is_wavelength}
use Rattle.numbers.proofs.dense_spectrum.is_wavelength.Goals as goal

pub returns : goal.returns
unfolding is_wavelength of_bits
returns c = rw (← c.within.ensures)
