-- `numbers::dense_spectrum::interpolate` meets its contract: its operations are the definition's, one by one.
use Rattle.std.specs.Float.Ieee.{of_bits}
use Rattle.std.proofs.Common.{refl}
use Rattle.numbers.specs.DenseSpectrum.{interpolate}
use Rattle.numbers.proofs.dense_spectrum.interpolate.Goals as goal

pub returns : goal.returns
unfolding interpolate of_bits
returns c = refl
