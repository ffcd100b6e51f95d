-- Operations on binary64 as the formulas write them, and the methods of Rust's `f64` that the model uses (document 01, "Floats and vectors"). Definitions only.
-- A circled operator is the real operation rounded once, to nearest, ties to even (IEEE 754-2019, 5.4.1; the notation is Knuth's, TAOCP 4.2.2).
use Rattle.std.specs.Prelude.{ℕ, Bool, true, false, ◌&&◌, cond, pos, Float}
use Rattle.std.specs.Float.{nan, inf, fin, binary64}
use Rattle.std.specs.Float.Ieee.{is_nan, lt, le, round}
use Rattle.std.specs.Float.Ieee as Ieee

infixl 60 ◌⊕◌
abbrev pub ◌⊕◌ : Float → Float → Float
x ⊕ y = Ieee.add binary64 x y

infixl 60 ◌⊖◌
abbrev pub ◌⊖◌ : Float → Float → Float
x ⊖ y = Ieee.sub binary64 x y

infixl 70 ◌⊗◌
abbrev pub ◌⊗◌ : Float → Float → Float
x ⊗ y = Ieee.mul binary64 x y

infixl 70 ◌⊘◌
abbrev pub ◌⊘◌ : Float → Float → Float
x ⊘ y = Ieee.div binary64 x y

-- ---- constants. `fin s m e` is m * 2 ^ e, negative where s is true.
abbrev pub f0 : Float
f0 = fin false 0 (pos 0)

abbrev pub f1 : Float
f1 = fin false 1 (pos 0)

abbrev pub f_1 : Float
f_1 = fin true 1 (pos 0)

abbrev pub f2 : Float
f2 = fin false 1 (pos 1)

-- the double nearest to the fraction n / d
unfoldable pub decimal : ℕ → ℕ → Float
unfolding round
decimal n d = round binary64 false n d

-- lumo's EPSILON: 1e-10
unfoldable pub epsilon : Float
unfolding decimal
epsilon = decimal 1 10000000000

-- ---- Rust's methods
-- x lies from lo to hi; a NaN lies outside every range
unfoldable pub within : Float → Float → Float → Bool
within lo hi x = le lo x && le x hi

-- a NaN is passed over (IEEE 754-2008, 5.3.1, maxNum and minNum); of two equal values, as -0 and +0, the first
unfoldable pub max : Float → Float → Float
max x y = cond (is_nan x) y (cond (lt x y) y x)

unfoldable pub min : Float → Float → Float
min x y = cond (is_nan x) y (cond (lt y x) y x)

-- a NaN stays, and so does -0 at a bound of 0
unfoldable pub clamp : Float → Float → Float → Float
clamp lo hi x = cond (lt x lo) lo (cond (lt hi x) hi x)

unfoldable pub abs : Float → Float
abs nan = nan
abs (inf s) = inf false
abs (fin s m e) = fin false m e

-- the sign bit; a NaN's is taken to be clear
unfoldable pub sign_bit : Float → Bool
sign_bit nan = false
sign_bit (inf s) = s
sign_bit (fin s m e) = s

-- 1 with the sign of x, so 1 for +0 and -1 for -0
unfoldable pub signum : Float → Float
signum nan = nan
signum (inf s) = fin s 1 (pos 0)
signum (fin s m e) = fin s 1 (pos 0)

unfoldable pub is_infinite : Float → Bool
is_infinite nan = false
is_infinite (inf s) = true
is_infinite (fin s m e) = false

unfoldable pub is_finite : Float → Bool
is_finite nan = false
is_finite (inf s) = false
is_finite (fin s m e) = true

-- 01's reading of `powi`, whose rounding Rust leaves open
unfoldable pub powi2 : Float → Float
powi2 v = v ⊗ v

abbrev pub powi5 : Float → Float
powi5 v = v ⊗ (v ⊗ v ⊗ (v ⊗ v))
