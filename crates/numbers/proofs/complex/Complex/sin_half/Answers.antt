-- `numbers::complex::Complex::sin_half` meets its contract: the calls give what their contracts promise, and the definition is read in the same order.
use Rattle.std.specs.Float.Ieee.{of_bits}
use Rattle.numbers.specs.Complex.{sin_half}
use Rattle.numbers.proofs.complex.Complex.sin_half.Goals as goal

pub returns-then-norm : goal.returns-then-norm
unfolding sin_half of_bits
returns-then-norm c = rw c.if-norm.true

pub returns-then-is_sign_negative : goal.returns-then-is_sign_negative
unfolding sin_half of_bits
returns-then-is_sign_negative c = rw (c.if-norm.false, ← c.sqrt_or_zero-sin.ensures, ← c.is_sign_negative.ensures, c.if-is_sign_negative.true)

pub returns : goal.returns
unfolding sin_half of_bits
returns c = rw (c.if-norm.false, ← c.sqrt_or_zero-sin.ensures, ← c.is_sign_negative.ensures, c.if-is_sign_negative.false)
