-- The bit pattern of a root, and the roots of the values that have no digits to compute.
-- Proved: a value by its bit pattern (`bits_at`), and which patterns are no NaN's (`clean`);
-- the digits of the root of m * 4 ^ h are the whole number nearest to the root of m * 2 ^ 52 (`root_at`, `nearest-pattern`);
-- the root of a value by its units (`root_by_units`), and a value's size (`size_of`);
-- and the values that have no digits to compute (`negative_case`, `own_case`).
use Rattle.std.proofs.Common.{◌≡◌, refl, sym, ap, ◌∙◌, subst, inl, inr, ℕ, zero, suc, ◌+◌, ◌-◌, ◌*◌, ◌/◌, ◌%◌, ◌^◌, ◌≤◌, ◌<◌, le_trans, lt_of_le_of_lt, lt_of_lt_of_le, mul_assoc, mul-le-mul_left, mul-le-mul_right, mul-le-mul, mul-pos, zero-lt-suc, arith, Bool, true, false, not, true≢false, ℤ, pos, T, leb, eqb, ltb→lt, lt→ltb, eqb→eq, lit<, lit≤, pow-add, pow_mono, Float}
use lib.Dec.{not_T}
use lib.Ieee.{nan, inf, fin, Format, binary64, of_fields, of_bits, nan_bits, lt, fits, up, down}
use lib.Ieee.Positive.{positive}
use lib.Ieee.Bits.{is_true, is_false, nan_bits_above, of_bits-fits}
use lib.Arith.{lt→nleb, le→nltb}
use lib.Ieee.Exact.{odd_sign}
use lib.Ieee.Fits.{round-fits, up_pos}
use Rattle.std.specs.Float.{float_is_finite}
use Rattle.floats.proofs.float.FloatBits.{nan_pattern}
use Rattle.floats.specs.SquareRoot.{isqrt, sticky, root_of_units, square_root, Size}
use Rattle.floats.specs.RootSteps.{Nearest}
use Rattle.floats.proofs.Rounding.{below_or_from}
use Rattle.floats.proofs.Rounding.Units.{U, O, O_is, U_is, Is, mag, unique}
use Rattle.floats.proofs.Rounding.NonNegative.{none_below}
use Rattle.floats.proofs.square_root.WholeRoot.{Root, isqrt-root, sq-lt, root_of_value, root_of_is, digits_of-root}
use Rattle.floats.proofs.square_root.RootDigits.{four_two}
use denote.Floats.{passes}

abbrev B : Format
B = binary64

-- the pattern of the infinity
abbrev pub inf_pattern : ℕ
inf_pattern = 2047 * 2 ^ 52

-- ---- the root of m * 2 ^ 54 has 54 digits
digits_54 : (Q m : ℕ) → Root Q (m * 2 ^ 54) → 2 ^ 52 ≤ m → m < 2 ^ 54 → (2 ^ 53 ≤ Q) × (Q < 2 ^ 54)
digits_54 Q m r l u = digits_of-root Q (m * 2 ^ 54) r (omega arith) (omega arith)

-- ---- a value by the field of its exponent and its digits; and which patterns are no NaN's
bits_at : (b x t : ℕ) → b ≡ suc x * 2 ^ 52 + t → suc x < 2047 → t < 2 ^ 52 → Is (of_bits B b) false ((2 ^ 52 + t) * 2 ^ x)
unfolding of_bits of_fields U
bits_at b x t e h k =
    let sign : leb (2 ^ 63) b ≡ false = is_false (leb (2 ^ 63) b) (lt→nleb (2 ^ 63) b (omega arith)) in
    let field : b % 2 ^ 63 / 2 ^ 52 ≡ suc x = omega arith in
    let rest : b % 2 ^ 52 ≡ t = omega arith in
    let tag : eqb (suc x) 2047 ≡ false = is_false (eqb (suc x) 2047) (not_T (eqb (suc x) 2047) (λ q. off (eqb→eq (suc x) 2047 q))) in
    rw (sign, field, rest, tag) (odd_sign 53 false (2 ^ 52 + t) x 1074)
  where
    off : suc x ≡ 2047 → ⊥
    off q = omega arith

-- up to the infinity's, a pattern is no NaN's
pub clean : (b : ℕ) → b ≤ inf_pattern → T (not (nan_bits B b))
clean b h = rw (nan_bits_above B b) (le→nltb inf_pattern (b % 2 ^ 63) (omega arith))

-- ---- the root of an operand, by its digits
-- r is the root of the value that is n units, wherever n * 2 ^ 1074 is m * 4 ^ h
abbrev pub RootFrom : ℕ → ℕ → Float → Type 0
RootFrom m h r = (n : ℕ) → n < 2 ^ 2098 → n * 2 ^ 1074 ≡ m * 4 ^ h → r ≡ root_of_units B n

pub root_of-fits : (n : ℕ) → T (fits B (root_of_units B n))
root_of-fits n =
    subst (λ (z : Float). T (fits B z)) (sym (root_of_is n))
    (round-fits B false (2 * isqrt 2098 (n * 2 ^ 1074) + sticky (isqrt 2098 (n * 2 ^ 1074)) (n * 2 ^ 1074)) (2 * U))

-- the root of the value that is n units, n * U being m * 4 ^ h: half of the 54 digits Q, rounded up, is the 53 digits of it
root_at : (Q m h n : ℕ) → Root Q (m * 2 ^ 54) → 2 ^ 52 ≤ m → m < 2 ^ 54 → 511 ≤ h → h ≤ 1559 → n < 2 ^ 2098
    → n * 2 ^ 1074 ≡ m * 4 ^ h
    → Is (root_of_units B n) false ((Q + 1) / 2 * 2 ^ (h - 26))
root_at Q m h n r l u lo hi nO e =
    let W = m * 2 ^ 54 in
    let b = h - 27 in
    let d = digits_54 Q m r l u in
    let to : (Q + 1) / 2 * 2 ^ (b + 1) < O =
    subst (λ (z : ℕ). (Q + 1) / 2 * 2 ^ (b + 1) < z) (sym O_is)
    (lt_of_le_of_lt (mul-le-mul (half Q d.1) (pow_mono (high h hi))) (lit< {m = 2 ^ 53 * 2 ^ 1533} {n = 2 ^ 2098} tt)) in
    let e' : n * U ≡ W * (2 ^ b * 2 ^ b) =
    ap (λ (z : ℕ). n * z) U_is
    ∙ e
    ∙ ap (λ (z : ℕ). m * z) (four_two h)
    ∙ ap (λ (z : ℕ). m * 2 ^ z) (omega arith)
    ∙ ap (λ (z : ℕ). m * z) (pow-add 2 54 (b + b) ∙ ap (λ (z : ℕ). 2 ^ 54 * z) (pow-add 2 b b))
    ∙ sym (mul_assoc m (2 ^ 54) (2 ^ b * 2 ^ b)) in
    let v = root_of_value n Q W b (subst (λ (z : ℕ). n < z) (sym O_is) nO) e' r (even m) d.0 d.1 to in
    subst (λ (z : ℕ). Is (root_of_units B n) false ((Q + 1) / 2 * 2 ^ z)) (omega arith) v
  where
    half : (Q : ℕ) → Q < 2 ^ 54 → (Q + 1) / 2 ≤ 2 ^ 53
    half Q h = omega arith

    high : (h : ℕ) → h ≤ 1559 → h - 27 + 1 ≤ 1533
    high h k = omega arith

    even : (m : ℕ) → m * 2 ^ 54 % 2 ≡ 0
    even m = omega arith

-- the whole number nearest to the root of n is half the whole root of 4 * n, rounded up
nearest_is-half : (q Q n : ℕ) → Nearest q n → Root Q (n * 4) → (Q + 1) / 2 ≡ q
nearest_is-half zero Q n h r = absurd (let a = h.0 in let b = h.1 in omega arith)
nearest_is-half (suc s) Q n h r = omega (arith, sq-lt Q (2 * s + 3) (omega arith), sq-lt (2 * s + 1) (Q + 1) (omega arith))

-- it has 53 digits
pub within : (q m : ℕ) → Nearest q (m * 2 ^ 52) → 2 ^ 52 ≤ m → m ≤ 2 ^ 54 - 2 → (2 ^ 52 ≤ q) × (q < 2 ^ 53)
within q m h l u = (
  elim (below_or_from q (2 ^ 52)) [ inl g ↦ absurd (low g) | inr g ↦ g ],
  elim (below_or_from q (2 ^ 53)) [ inl g ↦ g | inr g ↦ absurd (high g) ],
)
  where
    low : q < 2 ^ 52 → ⊥
    low g = let a = h.1 in let p : q * q ≤ q * (2 ^ 52 - 1) = mul-le-mul_left q (omega arith) in omega arith

    high : 2 ^ 53 ≤ q → ⊥
    high g =
        omega (arith, subst (λ (z : ℕ). z ≤ q * q) (less q) (mul-le-mul_left q g), le_trans (mul-le-mul_right (2 ^ 52) u) (le_trans {m = 2 ^ 53 * (2 ^ 53 - 1)} (lit≤ tt) (mul-le-mul_right (2 ^ 53 - 1) g)))
      where
        less : (q : ℕ) → q * 2 ^ 53 ≡ q * (2 ^ 53 - 1) + q
        less q = omega arith

-- so the pattern that is put together is the root's
pub nearest-pattern : (q m h : ℕ) → Nearest q (m * 2 ^ 52) → 2 ^ 52 ≤ m → m ≤ 2 ^ 54 - 2 → 511 ≤ h → h ≤ 1559
    → RootFrom m h (of_bits B ((h - 26) * 2 ^ 52 + q))
nearest-pattern q m h near l u lo hi n nO e =
    let W = m * 2 ^ 54 in
    let x = h - 26 in
    let Q = isqrt 54 W in
    let r = isqrt-root 54 W (lt_of_lt_of_le (few m u) (lit≤ tt)) in
    let qe : (Q + 1) / 2 ≡ q = nearest_is-half q Q (m * 2 ^ 52) near (subst (λ (z : ℕ). Root Q z) (omega arith) r) in
    let i = within q m near l u in
    let v = root_at Q m h n r l (strict m u) lo hi nO e in
    let p = x * 2 ^ 52 + q in
    let k = bits_at p x (q - 2 ^ 52) (carry q x i.0) (under h hi) (rest q i.1) in
    unique (of_bits B p) (root_of_units B n) false (q * 2 ^ x) (of_bits-fits B p) (root_of-fits n)
    (subst (λ (z : ℕ). Is (of_bits B p) false (z * 2 ^ x)) (back q i.0) k)
    (subst (λ (z : ℕ). Is (root_of_units B n) false (z * 2 ^ x)) qe v)
  where
    few : (m : ℕ) → m ≤ 2 ^ 54 - 2 → m * 2 ^ 54 < (2 ^ 54 - 1) * 2 ^ 54 + 1
    few m k = omega arith

    strict : (m : ℕ) → m ≤ 2 ^ 54 - 2 → m < 2 ^ 54
    strict m k = omega arith

    under : (h : ℕ) → h ≤ 1559 → suc (h - 26) < 2047
    under h k = omega arith

    carry : (q x : ℕ) → 2 ^ 52 ≤ q → x * 2 ^ 52 + q ≡ suc x * 2 ^ 52 + (q - 2 ^ 52)
    carry q x k = omega arith

    rest : (q : ℕ) → q < 2 ^ 53 → q - 2 ^ 52 < 2 ^ 52
    rest q k = omega arith

    back : (q : ℕ) → 2 ^ 52 ≤ q → 2 ^ 52 + (q - 2 ^ 52) ≡ q
    back q k = omega arith

-- ---- a value by its units
pub root_by_units : (m : ℕ) (e : ℤ) → square_root B (fin false (suc m) e) ≡ root_of_units B (mag (fin false (suc m) e))
unfolding square_root U
root_by_units m e = refl

pub size_of : (x : Float) (s : Bool) (n : ℕ) → Is x s n → Size x n
unfolding U
size_of (fin t m e) s n h = h.1
size_of nan s n h = elim h [ ]
size_of (inf _) s n h = elim h [ ]

-- ---- `by_digits`: the other values. 0.0 and NAN stand there by their bit patterns
pub zero_bits : of_bits B 0 ≡ fin false 0 (pos 0)
unfolding of_bits
zero_bits = refl

pub off : (b : Bool) → b ≡ false → T b → ⊥
off b e t = subst T e t

pub below_zero : (x : Float) → T (lt x (fin false 0 (pos 0))) → nan ≡ square_root B x
unfolding square_root lt
below_zero (inf true) t = refl
below_zero (fin true (suc m) e) t = refl
below_zero (fin true zero e) t = absurd (omega (arith, ltb→lt 0 (0 * up e * 1 + 0 * 1 * down e) t))
below_zero (fin false m e) t = absurd (none_below (m * up e * 1) (down e) (ltb→lt (m * up e * 1) (0 * 1 * down e) t))
below_zero nan t = elim t [ ]
below_zero (inf false) t = elim t [ ]

pub negative_case : (x : Float) → lt x (of_bits B 0) ≡ true → of_bits B 9221120237041090560 ≡ square_root B x
negative_case x e = nan_pattern ∙ below_zero x (subst (λ (z : Float). T (lt x z)) zero_bits (passes (lt x (of_bits B 0)) e))

positive_of : (x : Float) → T (lt (fin false 0 (pos 0)) x) → float_is_finite x ≡ true → T (positive x)
unfolding lt float_is_finite
positive_of (fin false zero i) t e = absurd (none_above (down i) (up i) (ltb→lt (0 * 1 * down i) (0 * up i * 1) t))
  where
    none_above : (d u : ℕ) → 0 * 1 * d < 0 * u * 1 → ⊥
    none_above d u h = omega arith
positive_of (fin false (suc m) i) t e = lt→ltb 0 (suc m) (zero-lt-suc m)
positive_of nan t e = elim t [ ]
positive_of (inf s) t e = absurd (true≢false (sym e))
positive_of (fin true m i) t e = elim t [ ]

pub positive_case : (x : Float) → lt (of_bits B 0) x ≡ true → float_is_finite x ≡ true → T (positive x)
positive_case x e = positive_of x (subst (λ (z : Float). T (lt z x)) zero_bits (passes (lt (of_bits B 0) x) e))

-- a zero, the infinity and a NaN
own : (x : Float) → (T (lt x (fin false 0 (pos 0))) → ⊥) → (T (lt (fin false 0 (pos 0)) x) → float_is_finite x ≡ true → ⊥) → x ≡ square_root B x
unfolding square_root lt float_is_finite
own nan a b = refl
own (inf true) a b = absurd (a tt)
own (inf false) a b = refl
own (fin s zero e) a b = refl
own (fin true (suc m) e) a b =
    absurd (a (lt→ltb 0 (suc m * up e * 1 + 0 * 1 * down e) (omega (arith, mul-pos (zero-lt-suc m) (up_pos e)))))
own (fin false (suc m) e) a b =
    absurd (b (lt→ltb (0 * 1 * down e) (suc m * up e * 1) (omega (arith, mul-pos (zero-lt-suc m) (up_pos e)))) refl)

pub own_case : (x : Float) → lt x (of_bits B 0) ≡ false → (lt (of_bits B 0) x ≡ true → float_is_finite x ≡ false) → x ≡ square_root B x
own_case x e f =
    own x (λ (t : T (lt x (fin false 0 (pos 0)))). off (lt x (of_bits B 0)) e (subst (λ (z : Float). T (lt x z)) (sym zero_bits) t))
    (λ (t : T (lt (fin false 0 (pos 0)) x)) (g : float_is_finite x ≡ true).
    true≢false (sym g ∙ f (is_true (lt (of_bits B 0) x) (subst (λ (z : Float). T (lt z x)) (sym zero_bits) t))))
