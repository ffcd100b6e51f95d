-- The finite values of binary64 as a sign and a natural number of units, a unit being 2 ^ -1074, the smallest value. `Is x s n`: x
-- is finite, has the sign s, and is n units in size. One is U units; from O units on a value is the infinity.
-- Proved: every finite value of the format has a sign and a size that rounding does not change (`is_of`), and they
-- determine it (`unique`); the order (`le_of_below`, `below_of-le`), the rounding (`round_units`, `round_over`)
-- and the operations (`neg_is`, `add_is` with `sum_is`, `mul_is`, `div_is`) by sign and units; a product of any two is the same in either order (`product_comm`).
-- The fractions that the kit's definitions hold are brought over U; two values are the
-- same since their bit patterns are made from sign and units alone.
use Rattle.std.proofs.Common.{◌≡◌, refl, sym, ap, ◌∙◌, subst, ◌⊎◌, inl, inr, ℕ, zero, suc, ◌+◌, ◌-◌, ◌*◌, ◌/◌, ◌%◌, ◌^◌, ◌≤◌, ◌<◌, zero-le, lt_of_le_of_lt, lt_irrefl, mul_comm, mul_assoc, mul_right_comm, mul-le-mul_right, mul-one, le_of_mul-le-mul_right, mul-lt-mul_of_pos_right, lt_of_mul-lt-mul_right, mul-pos, mul-div_cancel, not-le_of_lt, zero-lt-suc, arith, Bool, true, false, not, ◌&&◌, ◌||◌, cond, ℤ, pos, T, leb, ltb, eqb, ltb→lt, lt→ltb, nltb→le, leb→le, eqb→eq, lit<, pow-add, pow_pos, Float}
use native.Mathlib.Nat.{eq_of_mul-eq-mul_right, mul-mul-mul_comm, mul-sub}
use mathlib.Core.Bool.{beq}
use lib.IntN.{negsuc}
use lib.Dec.{not_T}
use lib.Pow.{pow-lt}
use lib.Ieee.{nan, inf, fin, Format, binary64, unlike, up, down, size, odd, units, round, neg, sum, add, sub, mul, div, below, level, le, lt, eq, fits, to_bits, of_bits}
use lib.Ieee.Fits.{down_pos, and_l, and_r, and_i, round_is, eq→eqb, up_pos}
use lib.Ieee.Exact.{HasValue, units_val}
use lib.Ieee.Order.{drop, kept}
use lib.Ieee.Scale.{round_same, finite}
use lib.Ieee.Positive.{first_pos}
use lib.Ieee.Bits.{cond_no, is_true, is_false, of_bits-to_bits}
use lib.Arith.{le→nltb}
use Rattle.floats.proofs.Rounding.{rnd, rnd_fix, rnd_same, below_or_from, pow_part}

abbrev B : Format
B = binary64

-- how many units one is, and from how many on a value is infinite. Shut: `omega` takes them as atoms.
unfoldable pub U : ℕ
U = 2 ^ 1074

unfoldable pub O : ℕ
O = 2 ^ 2098

pub U_is : U ≡ 2 ^ 1074
unfolding U
U_is = refl

pub O_is : O ≡ 2 ^ 2098
unfolding O
O_is = refl

pub U_pos : 0 < U
unfolding U
U_pos = pow_pos 1074

pub U_O : U < O
unfolding U O
U_O = pow-lt {i = 1074} {j = 2098} (lit< tt)

abbrev pub Is : Float → Bool → ℕ → Type 0
Is x s n = HasValue x s n U

abbrev pub sign : Float → Bool
sign nan = false
sign (inf s) = s
sign (fin s m e) = s

abbrev pub mag : Float → ℕ
mag nan = 0
mag (inf s) = 0
mag (fin s m e) = m * up e * U / down e

-- n is a number of units that binary64 holds: rounding does not change it, and it is below the infinity
abbrev pub Held : ℕ → Type 0
Held n = (rnd 53 n 1 ≡ n) × (n < O)

-- ---- a value that fits is a whole number of units
whole_at : (m : ℕ) (e : ℤ) (l : ℕ) → down e ≤ 2 ^ l → (j : ℕ) × (m * up e * 2 ^ l ≡ m * 2 ^ j * down e)
whole_at m (pos k) l h = let e = ap (λ (x : ℕ). m * x) (pow-add 2 k l) in (k + l, omega arith)
whole_at m (negsuc k) l h =
    elim (below_or_from l (suc k)) [
      | inl g ↦ absurd (not-le_of_lt (pow-lt g) h)
      | inr g ↦ (let e = ap (λ (x : ℕ). m * x) (pow_part l (suc k) g) in (l - suc k, omega arith))
    ]

pub each : (a b c d : Bool) → T (a && b && c && d) → T a × T b × T c × T d
each true true true d t = (tt, tt, tt, t)
each false b c d t = elim t [ ]
each true false c d t = elim t [ ]
each true true false d t = elim t [ ]

pub fits_parts : (s : Bool) (m : ℕ) (e : ℤ) → T (fits B (fin s (suc m) e))
    → (suc m % 2 ≡ 1) × (suc m < 2 ^ 53) × (down e ≤ 2 ^ 1074) × (suc m * up e < 2 ^ 1024 * down e)
unfolding fits
fits_parts s m e t =
    let h = each (eqb (suc m % 2) 1) (ltb (suc m) (2 ^ 53)) (leb (down e) (2 ^ 1074)) (ltb (suc m * up e) (2 ^ 1024 * down e)) t in (
      eqb→eq (suc m % 2) 1 h.0,
      ltb→lt (suc m) (2 ^ 53) h.1,
      leb→le (down e) (2 ^ 1074) h.2,
      ltb→lt (suc m * up e)
          (2 ^ 1024 * down e) h.3,
    )

-- the size in units, exactly
exact : (m : ℕ) (e : ℤ) (n : ℕ) → m * up e * U ≡ n * down e → m * up e * U / down e ≡ n
exact m e n h = ap (λ (x : ℕ). x / down e) h ∙ mul-div_cancel n (down_pos e)

zero_O : 0 < O
zero_O = lt_of_le_of_lt zero-le U_O

O_U : O ≡ 2 ^ 1024 * U
unfolding U O
O_U = pow-add 2 1024 1074

under_O : (x n d : ℕ) → x * U ≡ n * d → x < 2 ^ 1024 * d → n < O
under_O x n d h l = lt_of_mul-lt-mul_right d (go (2 ^ 1024) U O O_U h l U_pos)
  where
    go : (t u o : ℕ) → o ≡ t * u → x * u ≡ n * d → x < t * d → 0 < u → n * d < o * d
    go t u o e h l p = let m = mul-lt-mul_of_pos_right l p in let f = ap (λ (z : ℕ). z * d) e in omega arith

pub is_of : (x : Float) → T (finite x) → T (fits B x) → Is x (sign x) (mag x) × Held (mag x)
is_of (fin s zero e) f t =
    let v : 0 * up e * U ≡ 0 * down e = omega arith in
    let q : mag (fin s zero e) ≡ 0 = exact 0 e 0 v in
    ((refl, v ∙ ap (λ (x : ℕ). x * down e) (sym q)), subst Held (sym q) (rnd_fix 53 0 0 (lit< tt), zero_O))
is_of (fin s (suc m) e) f t =
    let p = fits_parts s m e t in
    let w = whole_at (suc m) e 1074 p.2 in
    let n = suc m * 2 ^ w.0 in
    let v : suc m * up e * U ≡ n * down e = ap (λ (u : ℕ). suc m * up e * u) U_is ∙ w.1 in
    let q : mag (fin s (suc m) e) ≡ n = exact (suc m) e n v in (
      (refl, v ∙ ap (λ (x : ℕ). x * down e) (sym q)),
      subst Held (sym q)
          (rnd_fix 53 (suc m) w.0 p.1, under_O (suc m * up e) n (down e) v p.3),
    )
is_of nan f t = elim f [ ]
is_of (inf _) f t = elim f [ ]

-- the size is determined
pub is_same : (x : Float) (s t : Bool) (a b : ℕ) → Is x s a → Is x t b → (s ≡ t) × (a ≡ b)
is_same (fin u m e) s t a b h k = (sym h.0 ∙ k.0, eq_of_mul-eq-mul_right (down e) (down_pos e) a b (sym h.1 ∙ k.1))
is_same nan s t a b h k = elim h [ ]
is_same (inf _) s t a b h k = elim h [ ]

pub units_pos : (m n : ℕ) (e : ℤ) → suc m * up e * U ≡ n * down e → 0 < n
units_pos m n e h = first_pos n (down e) (subst (λ (z : ℕ). 0 < z) h (mul-pos (mul-pos (zero-lt-suc m) (up_pos e)) U_pos))

-- a value above 0 has digits
pub zero_units : (n : ℕ) (e : ℤ) → 0 < n → 0 * up e * U ≡ n * down e → ⊥
zero_units n e p h = lt_irrefl 0 (subst (λ (z : ℕ). 0 < z) (sym h ∙ null (up e) U) (mul-pos p (down_pos e)))
  where
    null : (a b : ℕ) → 0 * a * b ≡ 0
    null a b = omega arith

pub is_finite_lem : (x : Float) (s : Bool) (a : ℕ) → Is x s a → T (finite x)
is_finite_lem nan s a h = h
is_finite_lem (inf u) s a h = h
is_finite_lem (fin u m e) s a h = tt

-- what lies between two finite values is finite
pub le-finite : (x y z : Float) → T (finite x) → T (finite z) → T (le x y) → T (le y z) → T (finite y)
unfolding le lt eq
le-finite (fin s m e) nan (fin t n d) f g h k = absurd h
le-finite (fin s m e) (inf false) (fin t n d) f g h k = absurd k
le-finite (fin s m e) (inf true) (fin t n d) f g h k = absurd h
le-finite (fin s m e) (fin u l c) (fin t n d) f g h k = tt
le-finite nan y z f g h k = elim f [ ]
le-finite (inf _) y z f g h k = elim f [ ]
le-finite (fin s m e) nan nan f g h k = elim g [ ]
le-finite (fin s m e) nan (inf _) f g h k = elim g [ ]
le-finite (fin s m e) (inf false) nan f g h k = elim g [ ]
le-finite (fin s m e) (inf false) (inf _) f g h k = elim g [ ]
le-finite (fin s m e) (inf true) nan f g h k = elim g [ ]
le-finite (fin s m e) (inf true) (inf _) f g h k = elim g [ ]
le-finite (fin s m e) (fin u l c) nan f g h k = elim g [ ]
le-finite (fin s m e) (fin u l c) (inf _) f g h k = elim g [ ]

-- ---- two values that fit and have the same sign and size are the same: their bit patterns are made from the sign and the size alone
abbrev pub pattern : Bool → ℕ → ℕ
pattern s n = cond s (2 ^ 63) 0 + (size n - 53) * 2 ^ 52 + n / 2 ^ (size n - 53)

pub bits_of : (x : Float) (s : Bool) (a : ℕ) → Is x s a → to_bits B x ≡ pattern s a
unfolding to_bits U
bits_of (fin t m e) s a h = ap (λ (n : ℕ). pattern t n) (exact m e a h.1) ∙ ap (λ (z : Bool). pattern z a) h.0
bits_of nan s a h = elim h [ ]
bits_of (inf _) s a h = elim h [ ]

pub unique : (x y : Float) (s : Bool) (a : ℕ) → T (fits B x) → T (fits B y) → Is x s a → Is y s a → x ≡ y
unique x y s a p q v w = sym (of_bits-to_bits B x p) ∙ ap (of_bits B) (bits_of x s a v ∙ sym (bits_of y s a w)) ∙ of_bits-to_bits B y q

-- ---- the order, by units. A sign and a size as a difference of two naturals
abbrev pub pp : Bool → ℕ → ℕ
pp s a = cond s 0 a

abbrev pub nn : Bool → ℕ → ℕ
nn s a = cond s a 0

-- a value that is not negative is its first part; the other sign swaps the parts
pub pp_is : (s : Bool) (a : ℕ) → nn s a ≡ 0 → pp s a ≡ a
pp_is false a h = refl
pp_is true a h = sym h

pub swap_pp : (s : Bool) (a : ℕ) → pp (not s) a ≡ nn s a
swap_pp false a = refl
swap_pp true a = refl

pub swap_nn : (s : Bool) (a : ℕ) → nn (not s) a ≡ pp s a
swap_nn false a = refl
swap_nn true a = refl

abbrev pub Below : Bool → ℕ → Bool → ℕ → Type 0
Below s a t b = pp s a + nn t b ≤ pp t b + nn s a

pub either : (a b : Bool) → T a ⊎ T b → T (a || b)
either true b h = tt
either false b (inr t) = t
either false b (inl x'') = elim x'' [ ]

or_case : (P : Type 0) (a b : Bool) → (T a → P) → (T b → P) → T (a || b) → P
or_case P true b f g t = f tt
or_case P false b f g t = g t

-- the same two sizes in other units
pub move : (u v : Bool) (a b x y c w : ℕ) → 0 < c → x * c ≡ a * w → y * c ≡ b * w → Below u a v b → Below u x v y
move false false a b x y c w C p q l = le_of_mul-le-mul_right {k = c} (let h = mul-le-mul_right w l in omega arith) C
move false true a b x y c w C p q l = le_of_mul-le-mul_right {k = c} (let h = mul-le-mul_right w l in omega arith) C
move true false a b x y c w C p q l = le_of_mul-le-mul_right {k = c} (let h = mul-le-mul_right w l in omega arith) C
move true true a b x y c w C p q l = le_of_mul-le-mul_right {k = c} (let h = mul-le-mul_right w l in omega arith) C

same_and : (x y : ℕ) (c : Bool) → x ≡ y → T c → T (eqb x y && c)
same_and x y c e t = and_i (eqb x y) c (eq→eqb e) t

pub below→test : (u v : Bool) (x y : ℕ) → Below u x v y → T (below u x v y || level u x v y)
below→test false false x y l =
    either (ltb x y) (eqb x y && true)
    (elim (below_or_from x y) [ inl h ↦ inl (lt→ltb x y h) | inr h ↦ inr (same_and x y true (omega arith) tt) ])
below→test true true x y l =
    either (ltb y x) (eqb x y && true)
    (elim (below_or_from y x) [ inl h ↦ inl (lt→ltb y x h) | inr h ↦ inr (same_and x y true (omega arith) tt) ])
below→test false true x y l = same_and x y (eqb x 0) (omega arith) (eq→eqb (let z : x ≡ 0 = omega arith in z))
below→test true false x y l =
    either (ltb 0 (x + y)) (eqb x y && eqb x 0)
    (elim (below_or_from 0 (x + y)) [
      | inl h ↦ inl (lt→ltb 0 (x + y) h)
      | inr h ↦ inr
          (same_and x y (eqb x 0) (omega arith) (eq→eqb (let z : x ≡ 0 = omega arith in z)))
    ])

pub test→below : (u v : Bool) (x y : ℕ) → T (below u x v y || level u x v y) → Below u x v y
test→below false false x y t =
    or_case (Below false x false y) (ltb x y) (eqb x y && true) (λ t. let h = ltb→lt x y t in omega arith)
    (λ t. let h = eqb→eq x y (and_l (eqb x y) true t) in omega arith) t
test→below true true x y t =
    or_case (Below true x true y) (ltb y x) (eqb x y && true) (λ t. let h = ltb→lt y x t in omega arith)
    (λ t. let h = eqb→eq x y (and_l (eqb x y) true t) in omega arith) t
test→below false true x y t =
    let a = eqb→eq x y (and_l (eqb x y) (eqb x 0) t) in let b = eqb→eq x 0 (and_r (eqb x y) (eqb x 0) t) in omega arith
test→below true false x y t = omega arith

-- two fractions p / c and q / d over the common denominator c * d, in units
pub over : (p a c d : ℕ) → p * U ≡ a * c → p * d * U ≡ a * (c * d)
over p a c d h = mul_right_comm p d U ∙ ap (λ (z : ℕ). z * d) h ∙ mul_assoc a c d

pub over' : (q b c d : ℕ) → q * U ≡ b * d → q * c * U ≡ b * (c * d)
over' q b c d h = over q b d c h ∙ ap (λ (z : ℕ). b * z) (mul_comm d c)

pub le_of_below : (x y : Float) (s t : Bool) (a b : ℕ) → Is x s a → Is y t b → Below s a t b → T (le x y)
unfolding le
le_of_below (fin u m e) (fin v n d) s t a b h k l =
    below→test u v (m * up e * down d) (n * up d * down e)
    (move u v a b (m * up e * down d) (n * up d * down e) U (down e * down d) U_pos
    (over (m * up e) a (down e) (down d) h.1) (over' (n * up d) b (down e) (down d) k.1)
    (subst (λ (z : Bool). Below z a v b) (sym h.0) (subst (λ (z : Bool). Below s a z b) (sym k.0) l)))
le_of_below nan y s t a b h k l = elim h [ ]
le_of_below (inf _) y s t a b h k l = elim h [ ]
le_of_below (fin u m e) nan s t a b h k l = elim k [ ]
le_of_below (fin u m e) (inf _) s t a b h k l = elim k [ ]

pub below_of-le : (x y : Float) (s t : Bool) (a b : ℕ) → Is x s a → Is y t b → T (le x y) → Below s a t b
unfolding le
below_of-le (fin u m e) (fin v n d) s t a b h k l =
    subst (λ (z : Bool). Below z a t b) h.0 (subst (λ (z : Bool). Below u a z b) k.0
    (move u v (m * up e * down d) (n * up d * down e) a b (down e * down d) U (mul-pos (down_pos e) (down_pos d))
    (sym (over (m * up e) a (down e) (down d) h.1)) (sym (over' (n * up d) b (down e) (down d) k.1))
    (test→below u v (m * up e * down d) (n * up d * down e) l)))
below_of-le nan y s t a b h k l = elim h [ ]
below_of-le (inf _) y s t a b h k l = elim h [ ]
below_of-le (fin u m e) nan s t a b h k l = elim k [ ]
below_of-le (fin u m e) (inf _) s t a b h k l = elim k [ ]

-- ---- `round`, by units: a fraction a / c rounds to `rnd 53 (a * U) c` units
pub round_units : (s : Bool) (a c : ℕ) → rnd 53 (a * U) c < O → Is (round B s a c) s (rnd 53 (a * U) c)
unfolding U O
round_units s a c h =
    subst (λ (z : Float). Is z s (rnd 53 (a * U) c)) (sym (round_is B s a c)) (units_val B s (kept 53 (a * U) c) (drop 53 (a * U) c) h)

units_over : (s : Bool) (q k : ℕ) → 2 ^ 2098 ≤ q * 2 ^ k → units B s q k ≡ inf s
unfolding units
units_over s q k h = cond_no (ltb (q * 2 ^ k) (2 ^ 2098)) (odd 54 s q k 1074) (inf s) (le→nltb (q * 2 ^ k) (2 ^ 2098) h)

pub round_over : (s : Bool) (a c : ℕ) → O ≤ rnd 53 (a * U) c → round B s a c ≡ inf s
unfolding U O
round_over s a c h = round_is B s a c ∙ units_over s (kept 53 (a * U) c) (drop 53 (a * U) c) h

-- a whole number of units, n / U
pub rnd_U : (n : ℕ) → rnd 53 (n * U) U ≡ rnd 53 n 1
rnd_U n = rnd_same 53 (n * U) U n 1 (lit< tt) U_pos (lit< tt) (mul-one (n * U))

pub round_whole : (s : Bool) (n : ℕ) → rnd 53 n 1 < O → Is (round B s n U) s (rnd 53 n 1)
round_whole s n h = subst (λ (z : ℕ). Is (round B s n U) s z) (rnd_U n) (round_units s n U (subst (λ (z : ℕ). z < O) (sym (rnd_U n)) h))

-- ---- the operations, by units
pub neg_is : (x : Float) (s : Bool) (a : ℕ) → Is x s a → Is (neg x) (not s) a
unfolding neg
neg_is (fin u m e) s a h = (ap not h.0, h.1)
neg_is nan s a h = elim h [ ]
neg_is (inf _) s a h = elim h [ ]

pub sub_opens : (x y : Float) → sub B x y ≡ add B x (neg y)
unfolding sub
sub_opens x y = refl

pub add-nan : (x : Float) → add B x nan ≡ nan
unfolding add
add-nan nan = refl
add-nan (inf s) = refl
add-nan (fin s m e) = refl

unlike_comm : (s t : Bool) → unlike s t ≡ unlike t s
unlike_comm true true = refl
unlike_comm true false = refl
unlike_comm false true = refl
unlike_comm false false = refl

-- a product is the same in either order, in any format
pub product_comm : (f : Format) (x y : Float) → mul f x y ≡ mul f y x
unfolding mul
product_comm f nan nan = refl
product_comm f nan (inf t) = refl
product_comm f nan (fin t n d) = refl
product_comm f (inf s) nan = refl
product_comm f (inf s) (inf t) = rw (unlike_comm s t)
product_comm f (inf s) (fin t n d) = rw (unlike_comm s t)
product_comm f (fin s m e) nan = refl
product_comm f (fin s m e) (inf t) = rw (unlike_comm s t)
product_comm f (fin s m e) (fin t n d) =
    rw (unlike_comm s t, mul_comm (m * up e) (n * up d), mul_comm (down e) (down d))

pub mul_is : (x y : Float) (s t : Bool) (a b : ℕ) → Is x s a → Is y t b → mul B x y ≡ round B (unlike s t) (a * b) (U * U)
unfolding mul
mul_is (fin u m e) (fin v n d) s t a b h k =
    ap (λ (z : Bool). round B (unlike z v) (m * up e * (n * up d)) (down e * down d)) h.0
    ∙ ap (λ (z : Bool). round B (unlike s z) (m * up e * (n * up d)) (down e * down d)) k.0
    ∙ round_same B (unlike s t) (m * up e * (n * up d)) (down e * down d) (a * b) (U * U) (mul-pos (down_pos e) (down_pos d))
    (mul-pos U_pos U_pos)
    (mul-mul-mul_comm (m * up e) (n * up d) U U ∙ ap (λ (z : ℕ). z * (n * up d * U)) h.1 ∙ ap (λ (z : ℕ). a * down e * z) k.1
    ∙ mul-mul-mul_comm a (down e) b (down d))
mul_is nan y s t a b h k = elim h [ ]
mul_is (inf _) y s t a b h k = elim h [ ]
mul_is (fin u m e) nan s t a b h k = elim k [ ]
mul_is (fin u m e) (inf _) s t a b h k = elim k [ ]

pub div_is : (x y : Float) (s t : Bool) (a b : ℕ) → Is x s a → Is y t b → 0 < b → div B x y ≡ round B (unlike s t) a b
unfolding div
div_is (fin u m e) (fin v n d) s t a b h k p =
    let y = n * up d * down e in
    let q : y * U ≡ b * (down e * down d) = over' (n * up d) b (down e) (down d) k.1 in
    let r : m * up e * down d * U ≡ a * (down e * down d) = over (m * up e) a (down e) (down d) h.1 in
    let Y : 0 < y = first_pos y U (subst (λ (z : ℕ). 0 < z) (sym q) (mul-pos p (mul-pos (down_pos e) (down_pos d)))) in
    cond_no (eqb n 0) (cond (eqb m 0) nan (inf (unlike u v))) (round B (unlike u v) (m * up e * down d) (n * up d * down e))
    (not_T (eqb n 0) (λ (z : T (eqb n 0)). lt_irrefl 0
    (subst (λ (w : ℕ). 0 < w) (eqb→eq n 0 z) (first_pos n (up d) (first_pos (n * up d) (down e) Y)))))
    ∙ ap (λ (z : Bool). round B (unlike z v) (m * up e * down d) (n * up d * down e)) h.0
    ∙ ap (λ (z : Bool). round B (unlike s z) (m * up e * down d) (n * up d * down e)) k.0
    ∙ round_same B (unlike s t) (m * up e * down d) (n * up d * down e) a b Y p
    (eq_of_mul-eq-mul_right U U_pos (m * up e * down d * b) (a * y)
    (mul_right_comm (m * up e * down d) b U
    ∙ ap (λ (z : ℕ). z * b) r
    ∙ swap a b (down e * down d)
    ∙ ap (λ (z : ℕ). a * z) (sym q)
    ∙ sym (mul_assoc a y U)))
  where
    swap : (a b w : ℕ) → a * w * b ≡ a * (b * w)
    swap a b w = omega arith
div_is nan y s t a b h k p = elim h [ ]
div_is (inf _) y s t a b h k p = elim h [ ]
div_is (fin u m e) nan s t a b h k p = elim k [ ]
div_is (fin u m e) (inf _) s t a b h k p = elim k [ ]

scaled_lt : (A B' a b c w : ℕ) → A * c ≡ a * w → B' * c ≡ b * w → 0 < w → a < b → A < B'
scaled_lt A B' a b c w p q W l =
    lt_of_mul-lt-mul_right c (subst (λ (z : ℕ). z < B' * c) (sym p) (subst (λ (z : ℕ). a * w < z) (sym q) (mul-lt-mul_of_pos_right l W)))

scaled_le : (A B' a b c w : ℕ) → A * c ≡ a * w → B' * c ≡ b * w → 0 < c → a ≤ b → A ≤ B'
scaled_le A B' a b c w p q C l = le_of_mul-le-mul_right {k = c} (let h = mul-le-mul_right w l in omega arith) C

same_ltb : (A B' a b c w : ℕ) → A * c ≡ a * w → B' * c ≡ b * w → 0 < c → 0 < w → ltb A B' ≡ ltb a b
same_ltb A B' a b c w p q C W = go (ltb a b) (ltb→lt a b) (nltb→le a b)
  where
    go : (z : Bool) → (T z → a < b) → (T (not z) → b ≤ a) → ltb A B' ≡ z
    go true f g = is_true (ltb A B') (lt→ltb A B' (scaled_lt A B' a b c w p q W (f tt)))
    go false f g = is_false (ltb A B') (le→nltb A B' (scaled_le B' A b a c w q p C (g tt)))

scaled_add : (A B' a b c w : ℕ) → A * c ≡ a * w → B' * c ≡ b * w → (A + B') * c ≡ (a + b) * w
scaled_add A B' a b c w p q = omega arith

scaled_sub : (A B' a b c w : ℕ) → A * c ≡ a * w → B' * c ≡ b * w → (A - B') * c ≡ (a - b) * w
scaled_sub A B' a b c w p q =
    mul_comm (A - B') c
    ∙ mul-sub c A B'
    ∙ inner (c * A) (c * B') (w * a) (w * b) (mul_comm c A ∙ p ∙ mul_comm a w) (mul_comm c B' ∙ q ∙ mul_comm b w)
    ∙ sym (mul-sub w a b)
    ∙ mul_comm w (a - b)
  where
    inner : (x y z v : ℕ) → x ≡ z → y ≡ v → x - y ≡ z - v
    inner x y z v h k = omega arith

sum_same : (s t : Bool) (A B' c a b : ℕ) → A * U ≡ a * c → B' * U ≡ b * c → 0 < c → sum B s A t B' c ≡ sum B s a t b U
unfolding sum
sum_same s t A B' c a b p q C =
    ap (λ (z : Float). cond (beq s t) z (cond (ltb A B') (round B t (B' - A) c) (round B (s && ltb B' A) (A - B') c)))
    (round_same B s (A + B') c (a + b) U C U_pos (scaled_add A B' a b U c p q))
    ∙ ap (λ (z : Float). cond (beq s t) (round B s (a + b) U) (cond (ltb A B') z (round B (s && ltb B' A) (A - B') c)))
    (round_same B t (B' - A) c (b - a) U C U_pos (scaled_sub B' A b a U c q p))
    ∙ ap (λ (z : Float). cond (beq s t) (round B s (a + b) U) (cond (ltb A B') (round B t (b - a) U) z))
    (round_same B (s && ltb B' A) (A - B') c (a - b) U C U_pos (scaled_sub A B' a b U c p q))
    ∙ ap (λ (z : Bool). cond (beq s t) (round B s (a + b) U) (cond z (round B t (b - a) U) (round B (s && ltb B' A) (a - b) U)))
    (same_ltb A B' a b U c p q U_pos C)
    ∙ ap (λ (z : Bool). cond (beq s t) (round B s (a + b) U) (cond (ltb a b) (round B t (b - a) U) (round B (s && z) (a - b) U)))
    (same_ltb B' A b a U c q p U_pos C)

pub add_is : (x y : Float) (s t : Bool) (a b : ℕ) → Is x s a → Is y t b → add B x y ≡ sum B s a t b U
unfolding add
add_is (fin u m e) (fin v n d) s t a b h k =
    ap (λ (z : Bool). sum B z (m * up e * down d) v (n * up d * down e) (down e * down d)) h.0
    ∙ ap (λ (z : Bool). sum B s (m * up e * down d) z (n * up d * down e) (down e * down d)) k.0
    ∙ sum_same s t (m * up e * down d) (n * up d * down e) (down e * down d) a b
    (over (m * up e) a (down e) (down d) h.1) (over' (n * up d) b (down e) (down d) k.1)
    (mul-pos (down_pos e) (down_pos d))
add_is nan y s t a b h k = elim h [ ]
add_is (inf _) y s t a b h k = elim h [ ]
add_is (fin u m e) nan s t a b h k = elim k [ ]
add_is (fin u m e) (inf _) s t a b h k = elim k [ ]

-- the exact sum has the sign σ and the size δ
pub record Sum (s : Bool) (a : ℕ) (t : Bool) (b : ℕ) : Type 0 where
  pub sig : Bool
  pub size : ℕ
  pub is : sum B s a t b U ≡ round B sig size U
  pub exact : pp sig size + (nn s a + nn t b) ≡ nn sig size + (pp s a + pp t b)

pub sum_is : (s t : Bool) (a b : ℕ) → Sum s a t b
unfolding sum
sum_is false false a b = record { sig = false; size = a + b; is = refl; exact = omega arith }
sum_is true true a b = record { sig = true; size = a + b; is = refl; exact = omega arith }
sum_is false true a b = go (ltb a b) refl (ltb→lt a b) (nltb→le a b)
  where
    pick : Bool → Float
    pick z = cond z (round B true (b - a) U) (round B false (a - b) U)

    go : (z : Bool) → ltb a b ≡ z → (T z → a < b) → (T (not z) → b ≤ a) → Sum false a true b
    go true e f g = let l = f tt in record { sig = true; size = b - a; is = ap pick e; exact = omega arith }
    go false e f g = let l = g tt in record { sig = false; size = a - b; is = ap pick e; exact = omega arith }
sum_is true false a b = go (ltb a b) refl (ltb→lt a b) (nltb→le a b) (ltb b a) refl (nltb→le b a)
  where
    pick : Bool → Bool → Float
    pick z w = cond z (round B false (b - a) U) (round B w (a - b) U)

    go : (z : Bool) → ltb a b ≡ z → (T z → a < b) → (T (not z) → b ≤ a) → (w : Bool) → ltb b a ≡ w → (T (not w) → a ≤ b)
        → Sum true a false b
    go true e f g w e' k = let l = f tt in record { sig = false; size = b - a; is = λ i. pick (e i) (ltb b a); exact = omega arith }
    go false e f g true e' k = let l = g tt in record { sig = true; size = a - b; is = λ i. pick (e i) (e' i); exact = omega arith }
    go false e f g false e' k =
        let l = g tt in
        let l' = k tt in
        record { sig = false; size = a - b; is = λ i. pick (e i) (e' i); exact = omega arith }
