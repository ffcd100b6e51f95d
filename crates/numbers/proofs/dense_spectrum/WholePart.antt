-- Whole numbers as doubles, and the least one from a value up.
-- Proved: a binary64 number below 2 ^ 64 has a whole part below 2 ^ 64 - 1, so that one more still fits (`room`): a number of more than 53 digits is even;
-- and `ceiling` by units, up to 2 ^ 52 (`ceiling_is`).
use Rattle.std.specs.Float.{nan, inf, fin, Format, binary64}
use Rattle.std.specs.Float.Ieee.{up, down, of_int, to_unsigned, lt, fits}
use Rattle.std.proofs.Common.{◌≡◌, ℕ, zero, suc, ◌+◌, ◌-◌, ◌*◌, ◌/◌, ◌^◌, ◌<◌, ◌≤◌, Bool, true, false, cond, not, ◌&&◌, T, ltb, ℤ, pos, negsuc, sym, refl, ap, subst, true≢false, le_trans, le_of_eq, lt_of_lt_of_le, lt_of_le_of_lt, mul-le-mul_right, lt_of_mul-lt-mul_right, mul-lt-mul_of_pos_right, mul-pos, zero-mul, div-le_self, div-mul-le_self, le_of_mul-le-mul_right, arith, lit<, lit≤, ltb→lt, lt→ltb, nltb→le, Float}
use Prim.Native.Nat.pow
use native.Mathlib.Nat.{min-le_left, min-eq_left, lt-div-mul-add}
use lib.Ieee.Fits.{and_i, down_pos}
use Rattle.floats.specs.Float.{f_1}
use Rattle.floats.proofs.Rounding.{rnd, rnd_fix}
use Rattle.floats.proofs.Rounding.Units.{U, O, U_pos, Is, nn, fits_parts, over, over'}
use Rattle.floats.proofs.Rounding.NonNegative.{Fine, int_is}
use Rattle.numbers.specs.DenseSpectrum.{ceiling}

abbrev B : Format
B = binary64

-- ---- one more still fits
-- a significand has 53 digits
digits : (m : ℕ) (e : ℤ) → T (fits binary64 (fin false m e)) → m < 2 ^ 53
digits zero e f = lit< tt
digits (suc m) e f = (fits_parts false m e f).1

below_top : (a k m : ℕ) → a ≡ m * 2 ^ k → m < 2 ^ 53 → a < 2 ^ 64 → a + 1 < 2 ^ 64
below_top a zero m e d l = omega arith
below_top a (suc k) m e d l =
    let h = ap (λ (p : ℕ). m * p) (pow.suc 2 k) in omega arith

pub room : (x : Float) → T (fits binary64 x) → T (lt x (fin false 1 (pos 64))) → to_unsigned 64 x + 1 < 2 ^ 64
unfolding to_unsigned lt
room (inf true) f l = lit< tt
room (fin true m e) f l = lit< tt
room (fin false m (pos k)) f l =
    let a = m * 2 ^ k in
    let h : a < 2 ^ 64 = let t = ltb→lt (a * 1) (1 * 2 ^ 64 * 1) l in omega arith in
    let b = below_top a k m refl (digits m (pos k) f) h in
    let q = le_trans (min-le_left (a / 1) (2 ^ 64 - 1)) (div-le_self a 1) in
    omega arith
room (fin false m (negsuc k)) f l =
    let d = digits m (negsuc k) f in
    let q = le_trans (min-le_left (m * 1 / 2 ^ suc k) (2 ^ 64 - 1)) (div-le_self (m * 1) (2 ^ suc k)) in
    omega arith
room nan f l = elim l [ ]
room (inf false) f l = elim l [ ]

-- ---- whole numbers, and `<`, by units
pub held_whole : (k : ℕ) → k < 2 ^ 53 → rnd 53 (k * U) 1 ≡ k * U
unfolding U
held_whole k h = rnd_fix 53 k 1074 h

pub top_O : 2 ^ 53 * U < O
unfolding U O
top_O = lit< tt

-- `<` by units, of values that are not negative
pub lt_units : (x y : Float) (a b : ℕ) → Is x false a → Is y false b → (T (lt x y) → a < b) × (T (not (lt x y)) → b ≤ a)
unfolding lt
lt_units (fin true m e) y a b i k = absurd (true≢false i.0)
lt_units (fin false m e) (fin true n d) a b i k = absurd (true≢false k.0)
lt_units (fin false m e) (fin false n d) a b i k =
    let x = m * up e * down d in
    let y = n * up d * down e in
    let dd = down e * down d in
    let dd0 = mul-pos (down_pos e) (down_pos d) in
    let ex : x * U ≡ a * dd = over (m * up e) a (down e) (down d) i.1 in
    let ey : y * U ≡ b * dd = over' (n * up d) b (down e) (down d) k.1 in (
      λ (t : T (ltb x y)). lt_of_mul-lt-mul_right dd (lt_of_le_of_lt (le_of_eq (sym ex)) (lt_of_lt_of_le (mul-lt-mul_of_pos_right (ltb→lt x y t) U_pos) (le_of_eq ey))),
      λ (t : T (not (ltb x y))). le_of_mul-le-mul_right {k = dd} (le_trans (le_of_eq (sym ey)) (le_trans (mul-le-mul_right U (nltb→le x y t)) (le_of_eq ex))) dd0,
    )
lt_units nan y a b i k = elim i [ ]
lt_units (inf _) y a b i k = elim i [ ]
lt_units (fin false m e) nan a b i k = elim k [ ]
lt_units (fin false m e) (inf _) a b i k = elim k [ ]

lt_negative : (x : Float) (a m : ℕ) (e : ℤ) → Is x false a → T (lt x (fin true m e)) → ⊥
unfolding lt
lt_negative (fin true n d) a m e i t = absurd (true≢false i.0)
lt_negative (fin false n d) a m e i t = t
lt_negative nan a m e i t = elim i [ ]
lt_negative (inf _) a m e i t = elim i [ ]

-- the whole part c of a / d, where a / d is n / U
floor_low : (n a c d u : ℕ) → a * u ≡ n * d → c * d ≤ a → 0 < d → c * u ≤ n
floor_low n a c d u v h p = le_of_mul-le-mul_right {k = d} (omega (arith, mul-le-mul_right u h)) p

floor_high : (n a c d u : ℕ) → a * u ≡ n * d → a < c * d + d → 0 < u → n < c * u + u
floor_high n a c d u v h p =
    lt_of_mul-lt-mul_right d (omega (arith, mul-lt-mul_of_pos_right h p))

pub ceiling_is : (q : Float) (n : ℕ) → Fine q n → n ≤ 2 ^ 52 * U → (n ≤ ceiling q * U) × (ceiling q * U < n + U)
unfolding ceiling lt to_unsigned
ceiling_is nan n h l = absurd h.1
ceiling_is (inf s) n h l = absurd h.1
ceiling_is (fin true m e) n h l =
    let q = fin true m e in
    let z : n ≡ 0 = subst (λ (b : Bool). nn b n ≡ 0) (sym h.1.0) h.2 in
    let o = of_int binary64 (pos 0) in
    let k-is = none (lt f_1 q && lt q (fin false 1 (pos 64))) (lt o q) (lt_negative o (0 * U) m e (int_is 0 (lit≤ tt))) in
    subst (λ (k : ℕ). (n ≤ k * U) × (k * U < n + U)) (sym k-is)
    (le_trans (le_of_eq z) (omega arith), lt_of_le_of_lt (le_of_eq (zero-mul U)) (lt_of_lt_of_le U_pos (omega arith)))
  where
    none : (b c : Bool) → (T c → ⊥) → cond b (cond c (0 + 1) 0) 0 ≡ 0
    none false c f = refl
    none true false f = refl
    none true true f = absurd (f tt)
ceiling_is (fin false m e) n h l =
    let q = fin false m e in
    let a = m * up e in
    let d = down e in
    let d0 = down_pos e in
    let c = a / d in
    let v : a * U ≡ n * d = h.1.1 in
    let low = floor_low n a c d U v (div-mul-le_self a d) d0 in
    let high = floor_high n a c d U v (lt-div-mul-add d0) U_pos in
    let few : c ≤ 2 ^ 52 = le_of_mul-le-mul_right {k = U} (le_trans low l) U_pos in
    let order = lt_units (of_int binary64 (pos c)) q (c * U) n (int_is c (le_trans few (lit≤ tt))) (refl, v) in
    let above : T (lt f_1 q) = lt→ltb 0 (1 * 1 * d + a * 1) (omega arith) in
    let below : T (lt q (fin false 1 (pos 64))) = lt→ltb (a * 1) (1 * 2 ^ 64 * d) (under a c d few (lt-div-mul-add d0)) in
    let both = and_i (lt f_1 q) (lt q (fin false 1 (pos 64))) above below in
    subst (λ (k : ℕ). let t = cond (lt f_1 q && lt q (fin false 1 (pos 64))) (cond (lt (of_int binary64 (pos k)) q) (k + 1) k) 0 in (n ≤ t * U) × (t * U < n + U))
    (sym (min-eq_left (le_trans few (lit≤ tt))))
    (chosen (lt f_1 q && lt q (fin false 1 (pos 64))) (lt (of_int binary64 (pos c)) q) c n both order.0 order.1 low high)
  where
    under : (a c d : ℕ) → c ≤ 2 ^ 52 → a < c * d + d → a * 1 < 1 * 2 ^ 64 * d
    under a c d h k = let m = mul-le-mul_right d h in omega arith

    chosen : (b t : Bool) (c n : ℕ) → T b → (T t → c * U < n) → (T (not t) → n ≤ c * U) → c * U ≤ n → n < c * U + U
        → let k = cond b (cond t (c + 1) c) 0 in (n ≤ k * U) × (k * U < n + U)
    chosen true true c n b f g l h = let above = f tt in (omega arith, omega arith)
    chosen true false c n b f g l h = (g tt, omega (arith, U_pos))
    chosen false t c n b f g l h = elim b [ ]
