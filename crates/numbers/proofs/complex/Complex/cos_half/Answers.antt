-- `numbers::complex::Complex::cos_half` meets its contract: the calls give what their contracts promise, and the definition is read in the same order.
use Rattle.std.specs.Float.Ieee.{of_bits}
use Rattle.numbers.specs.Complex.{cos_half}
use Rattle.numbers.proofs.complex.Complex.cos_half.Goals as goal

pub returns-then-norm : goal.returns-then-norm
unfolding cos_half of_bits
returns-then-norm c = rw c.if-norm.true

pub returns : goal.returns
unfolding cos_half of_bits
returns c = rw (c.if-norm.false, ← c.sqrt_or_zero.ensures)
