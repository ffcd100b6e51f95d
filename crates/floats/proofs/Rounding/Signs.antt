-- Signs of floats: `Plus x` says that the sign bit is clear or x is a NaN, `NotNegative x` that x is a NaN, the infinity, or finite and
-- from 0 on, of either zero sign.
-- Proved for any floats at all: absolute values and squares are `Plus`; sums and products of such are; products of values `NotNegative`
-- are, quotients of one by a `Plus` divisor, and `max` with 0 of anything. A finite value `NotNegative` is not below 0 by the order
-- (`not_below_le`), and one that is at most 1 is a share (`at_most_one`). By cases on the values and the sign that `round` keeps.
use Rattle.std.proofs.Common.{◌≡◌, refl, sym, ap, ◌∙◌, subst, ◌⊎◌, inl, inr, Bool, true, false, not, cond, true≢false, ℕ, zero, suc, ◌+◌, ◌*◌, ◌≤◌, ◌<◌, zero-le, lt_of_le_of_lt, mul-pos, not-le_of_lt, le_of_eq, zero-lt-suc, zero-mul, arith, ℤ, T, eqb, ltb, nltb→le, Float}
use mathlib.Core.Bool.{beq}
use lib.Ieee.{nan, inf, fin, Format, binary64, unlike, up, down, sum, round, is_nan, add, mul, div, le, lt, eq}
use lib.Ieee.Fits.{eq→eqb, up_pos, down_pos}
use lib.Ieee.Scale.{finite}
use Rattle.floats.proofs.Rounding.{rnd, below_or_from}
use Rattle.floats.proofs.Rounding.Units.{U, O, U_pos, U_O, Is, below→test, test→below, round_units, round_over}
use Rattle.floats.proofs.Rounding.NonNegative.{rnd-zero}
use Rattle.floats.proofs.Rounding.Shares.{Share}
use Rattle.floats.specs.Float.{◌⊕◌, ◌⊗◌, ◌⊘◌, f0, f1, max, abs, is_finite}

abbrev B : Format
B = binary64

-- ---- signs
-- the sign bit is clear, or there is none
abbrev pub Plus : Float → Type 0
Plus nan = Unit {0}
Plus (inf s) = s ≡ false
Plus (fin s m e) = s ≡ false

-- a NaN, the infinity, or finite and from 0 on
abbrev pub NotNegative : Float → Type 0
NotNegative nan = Unit {0}
NotNegative (inf s) = s ≡ false
NotNegative (fin s m e) = (s ≡ false) ⊎ (m ≡ 0)

pub plus_not_below : (x : Float) → Plus x → NotNegative x
plus_not_below nan p = tt
plus_not_below (inf s) p = p
plus_not_below (fin s m e) p = inl p

is_plus : (x : Float) (n : ℕ) → Is x false n → Plus x
is_plus nan n h = absurd h
is_plus (inf s) n h = absurd h
is_plus (fin s m e) n h = h.0

round-plus : (a c : ℕ) → Plus (round B false a c)
round-plus a c = elim (below_or_from (rnd 53 (a * U) c) O) [
  | inl l ↦ is_plus (round B false a c) (rnd 53 (a * U) c) (round_units false a c l)
  | inr h ↦ subst (λ (z : Float). Plus z) (sym (round_over false a c h)) refl
]

-- a product that is 0 has a factor that is
no_units : (m u : ℕ) → 0 < u → m * u ≤ 0 → m ≡ 0
no_units zero u p h = refl
no_units (suc m) u p h = absurd (not-le_of_lt (mul-pos (zero-lt-suc m) p) h)

is_zero : (x : Float) (s : Bool) → Is x s 0 → NotNegative x
is_zero nan s h = absurd h
is_zero (inf t) s h = absurd h
is_zero (fin t m e) s h = inr (no_units m (up e) (up_pos e) (le_of_eq (no_units (m * up e) U U_pos (omega arith))))

-- zero rounds to a zero
round-zero : (s : Bool) (a c : ℕ) → 0 < c → a ≡ 0 → NotNegative (round B s a c)
round-zero s a c p h =
    let none : rnd 53 (a * U) c ≡ 0 = ap (λ (n : ℕ). rnd 53 n c) (ap (λ (n : ℕ). n * U) h ∙ zero-mul U) ∙ rnd-zero c p in
    let small = subst (λ (n : ℕ). n < O) (sym none) O-pos in
    is_zero (round B s a c) s (subst (λ (n : ℕ). Is (round B s a c) s n) none (round_units s a c small))
  where
    O-pos : 0 < O
    O-pos = lt_of_le_of_lt zero-le U_O

unlike_self : (s : Bool) → unlike s s ≡ false
unlike_self false = refl
unlike_self true = refl

unlike-plus : (s t : Bool) → s ≡ false → t ≡ false → unlike s t ≡ false
unlike-plus s t p q = λ i. unlike (p i) (q i)

inf_or_nan : (b : Bool) (s : Bool) → s ≡ false → Plus (cond b nan (inf s))
inf_or_nan true s p = tt
inf_or_nan false s p = p

rounded_plus : (s : Bool) (a c : ℕ) → s ≡ false → Plus (round B s a c)
rounded_plus s a c p = subst (λ (t : Bool). Plus (round B t a c)) (sym p) (round-plus a c)

-- ---- absolute values, squares, products of two of clear sign
pub abs-plus : (x : Float) → Plus (abs x)
unfolding abs
abs-plus nan = tt
abs-plus (inf s) = refl
abs-plus (fin s m e) = refl

pub mul-plus : (x y : Float) → Plus x → Plus y → Plus (x ⊗ y)
unfolding mul
mul-plus nan y p q = tt
mul-plus (inf s) nan p q = tt
mul-plus (inf s) (inf t) p q = unlike-plus s t p q
mul-plus (inf s) (fin t n d) p q = inf_or_nan (eqb n 0) (unlike s t) (unlike-plus s t p q)
mul-plus (fin s m e) nan p q = tt
mul-plus (fin s m e) (inf t) p q = inf_or_nan (eqb m 0) (unlike s t) (unlike-plus s t p q)
mul-plus (fin s m e) (fin t n d) p q = rounded_plus (unlike s t) (m * up e * (n * up d)) (down e * down d) (unlike-plus s t p q)

pub square-plus : (x : Float) → Plus (x ⊗ x)
unfolding mul
square-plus nan = tt
square-plus (inf s) = unlike_self s
square-plus (fin s m e) = rounded_plus (unlike s s) (m * up e * (m * up e)) (down e * down e) (unlike_self s)

pub add-plus : (x y : Float) → Plus x → Plus y → Plus (x ⊕ y)
unfolding add sum
add-plus nan y p q = tt
add-plus (inf s) nan p q = tt
add-plus (inf s) (inf t) p q = go s t p q
  where
    go : (s t : Bool) → s ≡ false → t ≡ false → Plus (cond (beq s t) (inf s) nan)
    go false false p q = refl
    go false true p q = tt
    go true t p q = absurd (true≢false p)
add-plus (inf s) (fin t n d) p q = p
add-plus (fin s m e) nan p q = tt
add-plus (fin s m e) (inf t) p q = q
add-plus (fin false m e) (fin false n d) p q = round-plus (m * up e * down d + n * up d * down e) (down e * down d)
add-plus (fin false m e) (fin true n d) p q = absurd (true≢false q)
add-plus (fin true m e) (fin t n d) p q = absurd (true≢false p)

-- ---- products and quotients
-- the infinity times a zero is a NaN, and times another value the infinity
inf_times : (n : ℕ) (s t : Bool) → s ≡ false → (t ≡ false) ⊎ (n ≡ 0) → NotNegative (cond (eqb n 0) nan (inf (unlike s t)))
inf_times n s t p (inl q) = plus_not_below (cond (eqb n 0) nan (inf (unlike s t))) (inf_or_nan (eqb n 0) (unlike s t) (unlike-plus s t p q))
inf_times n s t p (inr z) = go (eqb n 0) (eq→eqb z)
  where
    go : (b : Bool) → T b → NotNegative (cond b nan (inf (unlike s t)))
    go true h = tt
    go false h = elim h [ ]

times_inf : (m : ℕ) (s t : Bool) → t ≡ false → (s ≡ false) ⊎ (m ≡ 0) → NotNegative (cond (eqb m 0) nan (inf (unlike s t)))
times_inf m s t p (inl q) = plus_not_below (cond (eqb m 0) nan (inf (unlike s t))) (inf_or_nan (eqb m 0) (unlike s t) (unlike-plus s t q p))
times_inf m s t p (inr z) = go (eqb m 0) (eq→eqb z)
  where
    go : (b : Bool) → T b → NotNegative (cond b nan (inf (unlike s t)))
    go true h = tt
    go false h = elim h [ ]

down_down : (e d : ℤ) → 0 < down e * down d
down_down e d = mul-pos (down_pos e) (down_pos d)

pub mul_not_below : (x y : Float) → NotNegative x → NotNegative y → NotNegative (x ⊗ y)
unfolding mul
mul_not_below nan y p q = tt
mul_not_below (inf s) nan p q = tt
mul_not_below (inf s) (inf t) p q = unlike-plus s t p q
mul_not_below (inf s) (fin t n d) p q = inf_times n s t p q
mul_not_below (fin s m e) nan p q = tt
mul_not_below (fin s m e) (inf t) p q = times_inf m s t q p
mul_not_below (fin s m e) (fin t n d) (inr z) q =
    round-zero (unlike s t) (m * up e * (n * up d)) (down e * down d) (down_down e d) (rw z (omega arith))
mul_not_below (fin s m e) (fin t n d) (inl p) (inr z) =
    round-zero (unlike s t) (m * up e * (n * up d)) (down e * down d) (down_down e d) (rw z (omega arith))
mul_not_below (fin s m e) (fin t n d) (inl p) (inl q) =
    plus_not_below (round B (unlike s t) a c) (rounded_plus (unlike s t) a c (unlike-plus s t p q))
  where
    a : ℕ
    a = m * up e * (n * up d)

    c : ℕ
    c = down e * down d

-- by a divisor of clear sign
pub div_not_below : (x y : Float) → NotNegative x → Plus y → NotNegative (x ⊘ y)
unfolding div
div_not_below nan y p q = tt
div_not_below (inf s) nan p q = tt
div_not_below (inf s) (inf t) p q = tt
div_not_below (inf s) (fin t n d) p q = unlike-plus s t p q
div_not_below (fin s m e) nan p q = tt
div_not_below (fin s m e) (inf t) p q = inr refl
div_not_below (fin s m e) (fin t n d) p q = go (eqb n 0) (eqb-zero n) p
  where
    a : ℕ
    a = m * up e * down d

    c : ℕ
    c = n * up d * down e

    eqb-zero : (n : ℕ) → T (not (eqb n 0)) → 0 < n
    eqb-zero zero h = absurd h
    eqb-zero (suc n) h = zero-lt-suc n

    go : (b : Bool) → (T (not b) → 0 < n) → (s ≡ false) ⊎ (m ≡ 0)
        → NotNegative (cond b (cond (eqb m 0) nan (inf (unlike s t))) (round B (unlike s t) a c))
    go true h k = times_inf m s t q k
    go false h (inl k) = plus_not_below (round B (unlike s t) a c) (rounded_plus (unlike s t) a c (unlike-plus s t k q))
    go false h (inr z) =
        round-zero (unlike s t) a c (mul-pos (mul-pos (h tt) (up_pos d)) (down_pos e)) (rw z (omega arith))

-- ---- `max` with 0, whatever it is taken of
pub max_not_below : (x : Float) → NotNegative (max x f0)
unfolding max is_nan lt
max_not_below nan = inl refl
max_not_below (inf true) = inl refl
max_not_below (inf false) = refl
max_not_below (fin false m e) = go (ltb (m * up e * 1) (0 * 1 * down e))
  where
    go : (b : Bool) → NotNegative (cond b f0 (fin false m e))
    go true = inl refl
    go false = inl refl
max_not_below (fin true m e) = go (ltb 0 (m * up e * 1 + 0 * 1 * down e)) (nltb→le 0 (m * up e * 1 + 0 * 1 * down e))
  where
    go : (b : Bool) → (T (not b) → m * up e * 1 + 0 * 1 * down e ≤ 0) → NotNegative (cond b f0 (fin true m e))
    go true f = inl refl
    go false f = inr (no_units m (up e) (up_pos e) (omega (arith, f tt)))

-- ---- to and from the order
pub not_below_le : (x : Float) → NotNegative x → T (is_finite x) → T (le f0 x)
unfolding is_finite le lt eq
not_below_le nan p f = absurd f
not_below_le (inf s) p f = absurd f
not_below_le (fin false m e) p f = below→test false false (0 * 1 * down e) (m * up e * 1) (omega arith)
not_below_le (fin true m e) (inl p) f = absurd (true≢false p)
not_below_le (fin true m e) (inr z) f = below→test false true (0 * 1 * down e) (m * up e * 1) (rw z (omega arith))

pub share_not_below : (x : Float) → Share x → NotNegative x
unfolding le lt eq
share_not_below nan h = tt
share_not_below (inf s) h = absurd h.0
share_not_below (fin false m e) h = inl refl
share_not_below (fin true m e) h =
    let below = test→below false true (0 * 1 * down e) (m * up e * 1) h.1 in
    inr (no_units m (up e) (up_pos e) (omega arith))

pub at_most_one : (x : Float) → NotNegative x → T (le x f1) → Share x
unfolding le lt eq is_finite
at_most_one x h l = let f = finite_of x h l in (f, not_below_le x h (is_finite_lem x f), l)
  where
    finite_of : (x : Float) → NotNegative x → T (le x f1) → T (finite x)
    finite_of nan h l = absurd l
    finite_of (inf false) h l = absurd l
    finite_of (inf true) h l = absurd (true≢false h)
    finite_of (fin s m e) h l = tt

    is_finite_lem : (x : Float) → T (finite x) → T (is_finite x)
    is_finite_lem (fin s m e) f = tt
    is_finite_lem nan f = elim f [ ]
    is_finite_lem (inf _) f = elim f [ ]
