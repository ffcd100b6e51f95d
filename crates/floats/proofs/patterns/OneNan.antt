-- There is one NaN: it has one pattern, and every pattern above the infinity's, its sign aside, is its.
use Rattle.std.proofs.Common.{◌≡◌, refl, sym, ℕ, ◌%◌, ◌<◌, true, T, Float}
use lib.Dec.{lt→ltb}
use lib.Ieee.{nan, inf, fin, binary64, is_nan, to_bits, of_bits}
use lib.Ieee.Bits.{nan_bits_above, nan_bits_is}

one_nan : (x : Float) → T (is_nan x) → x ≡ nan
unfolding is_nan
one_nan nan t = refl
one_nan (inf _) t = elim t [ ]
one_nan (fin _ _ _) t = elim t [ ]

pub pattern_of_nan : (x : Float) → true ≡ is_nan x → 9221120237041090560 ≡ to_bits binary64 x
unfolding to_bits
pattern_of_nan x is = let t : T (is_nan x) = rw (← is) tt in rw (one_nan x t)

pub nan_of_pattern : (b : ℕ) → 9218868437227405312 < b % 9223372036854775808 → nan ≡ of_bits binary64 b
nan_of_pattern b above =
    let t : T (is_nan (of_bits binary64 b)) = rw (← nan_bits_is binary64 b, nan_bits_above binary64 b) (lt→ltb 9218868437227405312 (b % 9223372036854775808) above) in
    sym (one_nan (of_bits binary64 b) t)
