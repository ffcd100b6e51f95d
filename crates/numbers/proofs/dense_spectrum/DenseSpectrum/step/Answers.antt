-- `numbers::dense_spectrum::DenseSpectrum::step` meets its contract: each answer is the definition's, by the test on the way.
use Rattle.std.specs.Float.Ieee.{of_bits}
use Rattle.std.proofs.Common.{eq-eqb, ne_eqb}
use Rattle.numbers.specs.DenseSpectrum.{step_of}
use Rattle.numbers.proofs.dense_spectrum.DenseSpectrum.step.Goals as goal

pub returns-then-self-eq-FINE_SAMPLES : goal.returns-then-self-eq-FINE_SAMPLES
unfolding step_of of_bits
returns-then-self-eq-FINE_SAMPLES c = rw (eq-eqb _ _ c.if-self-eq-FINE_SAMPLES.true)

pub returns : goal.returns
unfolding step_of of_bits
returns c = rw (ne_eqb _ _ c.if-self-eq-FINE_SAMPLES.false)
