-- Complex numbers, in the order of operations of lumo's src/math/complex.rs, with document 01's stand-in one in `sqrt`. Definitions only.
use Rattle.std.specs.Prelude.{Bool, cond, ◌&&◌, Float}
use Rattle.std.specs.Float.{nan}
use Rattle.std.specs.Float.Ieee.{neg, eq}
pub use Rattle.numbers.specs.declared.complex.Complex.{Complex}
use Rattle.floats.specs.Float.{◌⊕◌, ◌⊖◌, ◌⊗◌, ◌⊘◌, f0, f1, f2, max, sign_bit}
use Rattle.floats.specs.SquareRoot as Root

abbrev pub complex : Float → Float → Complex
complex a b = record { Re = a; Im = b }

unfoldable pub from_float : Float → Complex
from_float v = complex v f0

-- the squared norm
unfoldable pub norm_sqr : Complex → Float
norm_sqr z = z.Re ⊗ z.Re ⊕ z.Im ⊗ z.Im

unfoldable pub norm : Complex → Float
norm z = Root.sqrt (norm_sqr z)

-- the conjugate
abbrev pub co : Complex → Complex
co z = complex z.Re (neg z.Im)

-- Stand-in one: the cosine and the sine of half the angle of z, whose norm is n. cos² (φ/2) = (1 + cos φ)/2 and sin² (φ/2) = (1 - cos φ)/2, where cos φ = a/n.
unfoldable pub cos_half : Float → Complex → Float
cos_half n z = cond (eq n f0) f1 (Root.sqrt (max ((f1 ⊕ z.Re ⊘ n) ⊘ f2) f0))

unfoldable pub sin_half : Float → Complex → Float
sin_half n z =
    cond (eq n f0) f0
    (let s = Root.sqrt (max ((f1 ⊖ z.Re ⊘ n) ⊘ f2) f0) in cond (sign_bit z.Im) (neg s) s)

-- √(n e^(iφ)) = √n e^(iφ/2)
unfoldable pub sqrt : Complex → Complex
sqrt z = complex (Root.sqrt (norm z) ⊗ cos_half (norm z) z) (Root.sqrt (norm z) ⊗ sin_half (norm z) z)

-- ---- operators: on two complex numbers, on a complex number and a float, on a float and a complex number. Those with no test are read through everywhere.
abbrev pub add : Complex → Complex → Complex
add z w = complex (z.Re ⊕ w.Re) (z.Im ⊕ w.Im)

abbrev pub float_add : Float → Complex → Complex
float_add a w = complex (a ⊕ w.Re) w.Im

abbrev pub sub : Complex → Complex → Complex
sub z w = complex (z.Re ⊖ w.Re) (z.Im ⊖ w.Im)

abbrev pub float_sub : Float → Complex → Complex
float_sub a w = complex (a ⊖ w.Re) (neg w.Im)

abbrev pub mul : Complex → Complex → Complex
mul z w = complex (z.Re ⊗ w.Re ⊖ z.Im ⊗ w.Im) (z.Re ⊗ w.Im ⊕ z.Im ⊗ w.Re)

abbrev pub mul_float : Complex → Float → Complex
mul_float z a = complex (z.Re ⊗ a) (z.Im ⊗ a)

abbrev pub float_mul : Float → Complex → Complex
float_mul a w = complex (a ⊗ w.Re) (a ⊗ w.Im)

-- a quotient by zero is NaN in both parts
unfoldable pub is_zero : Complex → Bool
is_zero w = eq w.Re f0 && eq w.Im f0

unfoldable pub div_float : Complex → Float → Complex
div_float z a = cond (eq a f0) (complex nan nan) (complex (z.Re ⊘ a) (z.Im ⊘ a))

unfoldable pub div : Complex → Complex → Complex
div z w = cond (is_zero w) (complex nan nan) (div_float (mul z (co w)) (norm_sqr w))

unfoldable pub float_div : Float → Complex → Complex
float_div a w = cond (is_zero w) (complex nan nan) (div_float (float_mul a (co w)) (norm_sqr w))
