-- The methods of `f64` that read a bit pattern: `x != x` is the test for NaN (`nan_test`); of a value that is none the sign is the pattern's highest bit (`sign_test`), and the sign bit with the pattern of 1.0 is `signum` (`signum-bits`).
-- A value that fits its format is given back by its pattern, so each fact is one about the value of a pattern, by its three fields.
use Rattle.std.proofs.Common.{◌≡◌, refl, sym, ap, ◌∙◌, subst, ℕ, zero, suc, ◌+◌, ◌*◌, ◌/◌, ◌%◌, ◌≤◌, arith, Bool, true, false, not, cond, true≢false, T, leb, eqb, Float}
use lib.Dec.{eqb_refl}
use lib.Ieee.{nan, inf, fin, binary64, is_nan, ne, fits, to_bits, of_bits, of_fields, odd, nan_bits, up, down}
use borrow.Author.Tests.{leb-true, leb-false}
use lib.Ieee.Compare.{differs_from_itself}
use denote.Floats.{passes}
use lib.Ieee.Bits.{is_true, of_bits-to_bits, to_bits-lt, nan_bits_is}
use Rattle.std.specs.Float.{float_is_finite, float_is_infinite, float_with_sign, is_sign_negative}
use Rattle.floats.specs.Float.{abs, sign_bit, signum, is_infinite, is_finite}

-- ---- NaN
pub nan_test : (x : Float) → ne x x ≡ is_nan x
unfolding ne is_nan
nan_test nan = refl
nan_test (inf false) = refl
nan_test (inf true) = refl
nan_test (fin false m e) = rw (is_true (eqb (m * up e * down e) (m * up e * down e)) (eqb_refl (m * up e * down e)))
nan_test (fin true m e) = rw (is_true (eqb (m * up e * down e) (m * up e * down e)) (eqb_refl (m * up e * down e)))

pub not_nan : (x : Float) → ne x x ≡ false → T (not (is_nan x))
not_nan x e = rw (← nan_test x, e) tt

pub is_nan_lem : (x : Float) → ne x x ≡ true → x ≡ nan
is_nan_lem x e = differs_from_itself x (passes (ne x x) e)

-- ---- the sign of a pattern, by its fields
odd_sign : (d : ℕ) (s : Bool) (q k l : ℕ) → sign_bit (odd d s q k l) ≡ s
unfolding odd sign_bit
odd_sign d s zero k l = refl
odd_sign d s (suc q) k l = refl

special_sign : (b : Bool) (s : Bool) → T (not (is_nan (cond b (inf s) nan))) → sign_bit (cond b (inf s) nan) ≡ s
unfolding sign_bit is_nan
special_sign true s t = refl
special_sign false s t = absurd t

fields_sign : (s : Bool) (x t : ℕ) → T (not (is_nan (of_fields binary64 s x t))) → sign_bit (of_fields binary64 s x t) ≡ s
unfolding of_fields
fields_sign s zero t n = odd_sign 53 s t 0 1074
fields_sign s (suc x) t n = go (eqb (suc x) 2047) n
  where
    go : (b : Bool) → T (not (is_nan (cond b (cond (eqb t 0) (inf s) nan) (odd 53 s (4503599627370496 + t) x 1074))))
        → sign_bit (cond b (cond (eqb t 0) (inf s) nan) (odd 53 s (4503599627370496 + t) x 1074)) ≡ s
    go true n = special_sign (eqb t 0) s n
    go false n = odd_sign 53 s (4503599627370496 + t) x 1074

signum_keeps : (y : Float) → T (not (is_nan y)) → T (not (is_nan (signum y)))
unfolding is_nan signum
signum_keeps (inf s) n = tt
signum_keeps (fin s m e) n = tt
signum_keeps nan n = elim n [ ]

signed_one : (y : Float) → T (not (is_nan y)) → of_bits binary64 (cond (sign_bit y) 1 0 * 9223372036854775808 + 4607182418800017408) ≡ signum y
unfolding is_nan sign_bit signum of_bits
signed_one (inf false) n = refl
signed_one (inf true) n = refl
signed_one (fin false m e) n = refl
signed_one (fin true m e) n = refl
signed_one nan n = elim n [ ]

-- ---- the same of a value, by its pattern
module _ (x : Float) (f : T (fits binary64 x)) where
  pub sign_test : T (not (is_nan x)) → leb 9223372036854775808 (to_bits binary64 x) ≡ sign_bit x
  unfolding of_bits
  sign_test n =
      let b = to_bits binary64 x in
      sym (fields_sign (leb 9223372036854775808 b) (b % 9223372036854775808 / 4503599627370496) (b % 4503599627370496)
      (subst (λ (y : Float). T (not (is_nan y))) (sym (of_bits-to_bits binary64 x f)) n))
      ∙ ap sign_bit (of_bits-to_bits binary64 x f)

  -- the pattern is a sign bit and 63 bits more
  pub sign-digit : to_bits binary64 x / 9223372036854775808 ≤ 1
  sign-digit = omega (arith, to_bits-lt binary64 x f)

  pub signum-bits : T (not (is_nan x)) → of_bits binary64 (to_bits binary64 x / 9223372036854775808 * 9223372036854775808 + 4607182418800017408) ≡ signum x
  signum-bits n = ap (λ (q : ℕ). of_bits binary64 (q * 9223372036854775808 + 4607182418800017408)) (digit (sign_bit x) (sign_test n)) ∙ signed_one x n
    where
      digit : (s : Bool) → leb 9223372036854775808 (to_bits binary64 x) ≡ s → to_bits binary64 x / 9223372036854775808 ≡ cond s 1 0
      digit true e = omega (arith, leb-true 9223372036854775808 (to_bits binary64 x) e, sign-digit)
      digit false e = omega (arith, leb-false 9223372036854775808 (to_bits binary64 x) e)

  pub signum_not_nan : T (not (is_nan x)) → T (not (nan_bits binary64 (to_bits binary64 x / 9223372036854775808 * 9223372036854775808 + 4607182418800017408)))
  signum_not_nan n = rw (nan_bits_is binary64 (to_bits binary64 x / 9223372036854775808 * 9223372036854775808 + 4607182418800017408), signum-bits n) (signum_keeps x n)

-- ---- std's methods: its definitions are the ones of specs/Float.antt, by the cases of a float
pub finite_is : (x : Float) → float_is_finite x ≡ is_finite x
unfolding float_is_finite is_finite
finite_is nan = refl
finite_is (inf s) = refl
finite_is (fin s m e) = refl

pub infinite_is : (x : Float) → float_is_infinite x ≡ is_infinite x
unfolding float_is_infinite is_infinite
infinite_is nan = refl
infinite_is (inf s) = refl
infinite_is (fin s m e) = refl

pub abs_is : (x : Float) → float_with_sign false x ≡ abs x
unfolding float_with_sign abs
abs_is nan = refl
abs_is (inf s) = refl
abs_is (fin s m e) = refl

pub sign_is : (x : Float) → is_sign_negative x ≡ sign_bit x
unfolding is_sign_negative sign_bit
sign_is nan = refl
sign_is (inf s) = refl
sign_is (fin s m e) = refl

-- a NaN has no sign, and is what `signum` leaves as it is
pub nan_sign : (x : Float) → is_nan x ≡ true → false ≡ sign_bit x
unfolding is_nan sign_bit
nan_sign nan e = refl
nan_sign (inf s) e = absurd (true≢false (sym e))
nan_sign (fin s m i) e = absurd (true≢false (sym e))

pub nan_signum : (x : Float) → is_nan x ≡ true → x ≡ signum x
unfolding is_nan signum
nan_signum nan e = refl
nan_signum (inf s) e = absurd (true≢false (sym e))
nan_signum (fin s m i) e = absurd (true≢false (sym e))

pub is_number : (x : Float) → is_nan x ≡ false → T (not (is_nan x))
is_number x e = rw e tt

-- the pattern of f64::NAN
pub nan_pattern : of_bits binary64 9221120237041090560 ≡ nan
unfolding of_bits
nan_pattern = refl
