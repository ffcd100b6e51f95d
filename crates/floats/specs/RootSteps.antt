-- What the parts of the square root's computation promise each other. Definitions
-- only; the root itself is defined in SquareRoot.antt, its digits in RootDigits.antt.
use Rattle.std.specs.Prelude.{ℕ, ◌+◌, ◌-◌, ◌*◌, ◌^◌, ◌≤◌, ◌<◌, ◌≡◌, T, Float}
use Rattle.std.specs.Float.{binary64}
use Rattle.std.specs.Float.Ieee.{fits}
use Rattle.std.specs.Float.Ieee.Positive.{positive}
use Rattle.floats.specs.SquareRoot.{sqrt, Size}

-- ---- the operand
-- m has 53 or 54 binary digits and isn't 54 ones, whose nearest root would have a digit too many; h is from 1022 / 2,
-- the least value's above 0, to 3119 / 2, the largest's
abbrev pub InRange : ℕ → ℕ → Type 0
InRange m h = (2 ^ 52 ≤ m) × (m ≤ 2 ^ 54 - 2) × (511 ≤ h) × (h ≤ 1559)

-- m and h are the operand of d * 2 ^ e: this is m * 4 ^ h
abbrev pub Placed : ℕ → ℕ → ℕ → ℕ → Type 0
Placed d e m h = d * 2 ^ e ≡ m * 4 ^ h

-- m and h are the operand of x, a finite value of binary64 above 0: x is n * 2 ^ -1074, which is m * 4 ^ h * 2 ^ -2148
pub record Scaled (x : Float) (m h : ℕ) : Type 0 where
  pub holds : T (fits binary64 x)
  pub above : T (positive x)
  pub n : ℕ
  pub size : Size x n
  pub placed : Placed n 1074 m h

-- r is the root of the value that has this operand
abbrev pub RootOf : ℕ → ℕ → Float → Type 0
RootOf m h r = (x : Float) → Scaled x m h → r ≡ sqrt x

-- ---- the 53 digits
-- q is the whole number nearest to the root of n, a number above 0: q - 1/2 < √n < q + 1/2, squared
abbrev pub Nearest : ℕ → ℕ → Type 0
Nearest q n = (q * q < n + q) × (n ≤ q * q + q)
