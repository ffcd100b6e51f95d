-- The square root of a float, correctly rounded (IEEE 754-2019, 5.4.1, squareRoot). Definitions only.
-- First how it is computed; then what it is, `SquareRoot`, which says nothing of the
-- computation. `nearest-root` of proofs/square_root/NearestRoot.antt proves that of this, and `by_processor` of Processor.antt beside it
-- that the language's own definition of a processor's root gives the same.
use Rattle.std.specs.Prelude.{◌≡◌, ℕ, zero, suc, ◌+◌, ◌*◌, ◌/◌, ◌^◌, ◌<◌, Bool, true, false, cond, pos, T, leb, eqb, Float}
use Rattle.std.specs.Float.{nan, inf, fin, Format, binary64}
use Rattle.std.specs.Float.Ieee.{low, emax, up, down, round, fits, lt}
use Rattle.floats.specs.Float.{f0, is_finite}

-- the whole root of a number n below 4 ^ k: twice the root of n / 4, and one more where its square still fits
unfoldable pub isqrt : ℕ → ℕ → ℕ
isqrt zero n = 0
isqrt (suc k) n = let r = 2 * isqrt k (n / 4) in r + cond (leb ((r + 1) * (r + 1)) n) 1 0

-- 1 where R is not the exact root of w, so that something was cut off, and 0 where it is
unfoldable pub sticky : ℕ → ℕ → ℕ
sticky R w = cond (eqb (R * R) w) 0 1

-- The root of the value that is n units, a unit being 2 ^ -low f: √(n * 2 ^ low f) units, which
-- is R and, where something was cut off, half a unit that stands for the rest.
-- One rounding of that is the rounding of the real root, since no value of the format
-- lies strictly between R and R + 1/2, nor halfway between two.
unfoldable pub root_of_units : Format → ℕ → Float
unfolding isqrt sticky round
root_of_units f n =
    let w = n * 2 ^ low f in
    let R = isqrt (low f + emax f + 1) w in
    round f false (2 * R + sticky R w) (2 * 2 ^ low f)

-- √-0 is -0, and the root of a number below 0 is NaN
unfoldable pub square_root : Format → Float → Float
unfolding root_of_units
square_root f nan = nan
square_root f (inf s) = cond s nan (inf false)
square_root f (fin s zero e) = fin s zero e
square_root f (fin true (suc m) e) = nan
square_root f (fin false (suc m) e) = root_of_units f (suc m * up e * 2 ^ low f / down e)

abbrev pub sqrt : Float → Float
sqrt x = square_root binary64 x

-- ---- what a square root is
-- how many of the least value above 0, 2 ^ -1074, make 1
abbrev pub per_one : ℕ
per_one = 2 ^ 1074

-- x is finite, and |x| is n times 2 ^ -1074: m * 2 ^ e = n * 2 ^ -1074
abbrev pub Size : Float → ℕ → Type 0
Size nan n = ⊥
Size (inf s) n = ⊥
Size (fin s m e) n = m * up e * per_one ≡ n * down e

-- √w is nearer to a than to b: it lies on a's side of the midpoint (a + b) / 2, and
-- not at it. Squared, and times 4, so that no fraction is left.
abbrev pub Nearer : ℕ → ℕ → ℕ → Type 0
Nearer w a b = (a < b → 4 * w < (a + b) * (a + b)) × (b < a → (a + b) * (a + b) < 4 * w)

-- r is the value of binary64 that is nearest to √x, for an x above 0. With n, a
-- and b the sizes of x, r and y, √x is √(n * 2 ^ 1074) in size:
-- it is nearer to r than to any other value y. (A y below 0 is farther from √x than |y| is.) No
-- two values are equally near, so nothing is left for "ties to even" to settle.
pub record NearestRoot (x r : Float) : Type 0 where
  pub finite : T (is_finite r)
  pub holds : T (fits binary64 r)
  pub above : T (lt f0 r)
  pub n : ℕ
  pub a : ℕ
  pub x_size : Size x n
  pub r_size : Size r a
  pub nearest : (y : Float) → T (is_finite y) → T (fits binary64 y) → (b : ℕ) × Size y b × Nearer (n * per_one) a b

-- a function is IEEE 754's square root of binary64
pub record SquareRoot (root : Float → Float) : Type 0 where
  pub of_nan : root nan ≡ nan
  pub of_infinity : root (inf false) ≡ inf false
  pub of_zero : (s : Bool) → root (fin s 0 (pos 0)) ≡ fin s 0 (pos 0)
  pub below_zero : (x : Float) → T (lt x f0) → root x ≡ nan
  pub above_zero : (x : Float) → T (is_finite x) → T (fits binary64 x) → T (lt f0 x) → NearestRoot x (root x)
