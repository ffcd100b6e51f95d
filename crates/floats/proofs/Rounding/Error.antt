-- The rounding error of each operation on finite values of either sign. A value is P x - N x units,
-- two naturals, so every bound is a pair of inequalities over ℕ that `omega` reads.
-- Proved: |fl(x + y) - (x + y)| <= 2 ^ -53 |x + y| (`add_err`), the same for a product and a quotient with half a unit more
-- (`mul_err`, `div_err`); an error as a number of its own (`unscale`). From the error of `rnd` in Rounding, sign by sign.
use Rattle.std.proofs.Common.{◌≡◌, refl, sym, ap, ◌∙◌, subst, ℕ, ◌+◌, ◌-◌, ◌*◌, ◌/◌, ◌^◌, ◌≤◌, ◌<◌, mul-pos, le_of_mul-le-mul_right, lt_of_mul-lt-mul_right, arith, Bool, true, false, not, T, lit<, pos, Float}
use native.Mathlib.Nat.{mul-div-le}
use lib.Ieee.{nan, inf, fin, Format, binary64, unlike, neg, add, mul, div, le, fits}
use lib.Ieee.Fits.{add-fits, div-fits, mul-fits, neg-fits}
use lib.Ieee.Scale.{finite}
use Rattle.floats.proofs.Rounding.{rnd, Near, rnd_all, rnd_whole}
use Rattle.floats.proofs.Rounding.Units.{U, O, U_pos, Is, sign, mag, is_of, is_finite_lem, is_same, pp, nn, le_of_below, below_of-le, round_units, round_whole, neg_is, mul_is, div_is, add_is, sum_is, swap_pp, swap_nn}
use Rattle.floats.specs.Float.{f_1}

abbrev B : Format
B = binary64

-- finite, and of the format
abbrev pub Fin : Float → Type 0
Fin x = T (finite x) × T (fits B x)

pub unit_fin : (s : Bool) → Fin (fin s 1 (pos 0))
unfolding fits
unit_fin false = (tt, tt)
unit_fin true = (tt, tt)

-- x is P x - N x units, and one of the two is 0
unfoldable pub P : Float → ℕ
P x = pp (sign x) (mag x)

unfoldable pub N : Float → ℕ
N x = nn (sign x) (mag x)

-- its parts as they stand
as_parts : (x : Float) → (P x ≡ pp (sign x) (mag x)) × (N x ≡ nn (sign x) (mag x))
unfolding P N
as_parts x = (refl, refl)

pub parts : (x : Float) (s : Bool) (a : ℕ) → Fin x → Is x s a → (P x ≡ pp s a) × (N x ≡ nn s a)
unfolding P N
parts x s a f h =
    let e = is_same x (sign x) s (mag x) a (is_of x f.0 f.1).0 h in (
      ap (λ (z : Bool). pp z (mag x)) e.0 ∙ ap (λ (z : ℕ). pp s z) e.1,
      ap (λ (z : Bool). nn z (mag x)) e.0 ∙ ap (λ (z : ℕ). nn s z) e.1,
    )

-- a value of the format by its sign and units
pub sized : (z : Float) (s : Bool) (n : ℕ) → T (fits B z) → Is z s n → Fin z × (mag z ≡ n)
sized z s n f i = let t = is_finite_lem z s n i in ((t, f), (is_same z (sign z) s (mag z) n (is_of z t f).0 i).1)

pub size_is : (s : Bool) (a : ℕ) → pp s a + nn s a ≡ a
size_is false a = omega arith
size_is true a = omega arith

pub sum_mag : (x : Float) → P x + N x ≡ mag x
unfolding P N
sum_mag x = size_is (sign x) (mag x)

-- one of the two parts is 0
pub one_side : (x : Float) → P x + N x ≡ (P x - N x) + (N x - P x)
unfolding P N
one_side x = go (sign x) (mag x)
  where
    go : (s : Bool) (a : ℕ) → pp s a + nn s a ≡ (pp s a - nn s a) + (nn s a - pp s a)
    go false a = omega arith
    go true a = omega arith

pub m1_is : (P f_1 ≡ 0) × (N f_1 ≡ U)
unfolding P N U
m1_is = (refl, refl)

abbrev pub M : ℕ
M = 2 ^ 53

abbrev pub M/2 : ℕ
M/2 = 2 ^ 52

-- ---- one rounding with a sign: from δ / 1 to r
signed : (σ : Bool) (m r δ e : ℕ) → Near (m * r) (m * δ) e → Near (m * (pp σ r + nn σ δ)) (m * (nn σ r + pp σ δ)) e
signed false m r δ e h = omega arith
signed true m r δ e h = omega arith

size-bound : (σ : Bool) (δ p n e : ℕ) → pp σ δ + n ≡ nn σ δ + p → p ≤ n + e → n ≤ p + e → δ ≤ e
size-bound false δ p n e h k l = omega arith
size-bound true δ p n e h k l = omega arith

-- the sum: e bounds the exact sum in size
pub add_err : (x y : Float) (e : ℕ) → Fin x → Fin y → P x + P y ≤ N x + N y + e → N x + N y ≤ P x + P y + e → e + e < O
    → Fin (add B x y)
    × Near (M * (P (add B x y) + (N x + N y))) (M * (N (add B x y) + (P x + P y))) e
    × (M * (P (add B x y) + N (add B x y)) ≤ M * e + e)
add_err x y e fx fy h k o =
    let s = sign x in
    let t = sign y in
    let a = mag x in
    let b = mag y in
    let px = as_parts x in
    let py = as_parts y in
    let q = sum_is s t a b in
    let σ = q.sig in
    let δ = q.size in
    let r = rnd 53 δ 1 in
    let w = rnd_whole 53 δ (lit< tt) in
    let l = size-bound σ δ (pp s a + pp t b) (nn s a + nn t b) e q.exact (rw (px.0, px.1, py.0, py.1) at h) (rw (px.0, px.1, py.0, py.1) at k) in
    let is = add_is x y s t a b (is_of x fx.0 fx.1).0 (is_of y fy.0 fy.1).0 ∙ q.is in
    let i : Is (add B x y) σ r = subst (λ (z : Float). Is z σ r) (sym is) (round_whole σ δ (omega arith)) in
    let f : Fin (add B x y) = (is_finite_lem (add B x y) σ r i, add-fits B x y) in
    let pr = parts (add B x y) σ r f i in (
      f,
      rw (pr.0, pr.1, px.0, px.1, py.0, py.1)
          (omega (arith, signed σ M r δ δ w)),
      rw (pr.0, pr.1, size_is σ r) (omega arith),
    )

-- ---- the product, in units of units: 1 is U * U
prod_pos : (s t : Bool) (a b : ℕ) → pp s a * pp t b + nn s a * nn t b ≡ pp (unlike s t) (a * b)
prod_pos false false a b = omega arith
prod_pos false true a b = omega arith
prod_pos true false a b = omega arith
prod_pos true true a b = omega arith

prod_neg : (s t : Bool) (a b : ℕ) → pp s a * nn t b + nn s a * pp t b ≡ nn (unlike s t) (a * b)
prod_neg false false a b = omega arith
prod_neg false true a b = omega arith
prod_neg true false a b = omega arith
prod_neg true true a b = omega arith

near_cancel : (u x y d : ℕ) → 0 < u → Near (x * u) (y * u) (d * u) → Near x y d
near_cancel u x y d h n =
    (le_of_mul-le-mul_right {k = u} (let k = n.0 in omega arith) h, le_of_mul-le-mul_right {k = u} (let k = n.1 in omega arith) h)

pub mul-rnd : (n : ℕ) → Near (M * (rnd 53 (n * U) (U * U) * U)) (M * n) (n + M/2 * U)
mul-rnd n =
    let h = rnd_all 53 (n * U) (U * U) (lit< tt) (mul-pos U_pos U_pos) in
    near_cancel U (M * (rnd 53 (n * U) (U * U) * U)) (M * n) (n + M/2 * U) U_pos (omega arith)

pub mul_err : (x y : Float) (e : ℕ) → Fin x → Fin y → (P x + N x) * (P y + N y) ≤ e → e + e + U < O * U
    → Fin (mul B x y)
    × Near (M * (U * P (mul B x y) + (P x * N y + N x * P y))) (M * (U * N (mul B x y) + (P x * P y + N x * N y))) (e + M/2 * U)
    × (M * (U * P (mul B x y) + U * N (mul B x y)) ≤ M * e + e + M/2 * U)
mul_err x y e fx fy h o =
    let s = sign x in
    let t = sign y in
    let a = mag x in
    let b = mag y in
    let σ = unlike s t in
    let px = as_parts x in
    let py = as_parts y in
    let n = a * b in
    let ab : n ≤ e = rw (sum_mag x, sum_mag y) at h in
    let r = rnd 53 (n * U) (U * U) in
    let w = mul-rnd n in
    let is = mul_is x y s t a b (is_of x fx.0 fx.1).0 (is_of y fy.0 fy.1).0 in
    let below = round_units σ n (U * U) (lt_of_mul-lt-mul_right U (small r n U (O * U) w ab o)) in
    let i : Is (mul B x y) σ r = subst (λ (z : Float). Is z σ r) (sym is) below in
    let f : Fin (mul B x y) = (is_finite_lem (mul B x y) σ r i, mul-fits B x y) in
    let pr = parts (mul B x y) σ r f i in (
      f,
      rw (pr.0, pr.1, px.0, px.1, py.0, py.1, prod_pos s t a b, prod_neg s t a b) (finish σ r n w ab),
      rw (pr.0, pr.1) (whole σ r n U w ab),
    )
  where
    small : (r n u ou : ℕ) → Near (M * (r * u)) (M * n) (n + M/2 * u) → n ≤ e → e + e + u < ou → r * u < ou
    small r n u ou h l k = omega arith

    whole : (σ : Bool) (r n u : ℕ) → Near (M * (r * u)) (M * n) (n + M/2 * u) → n ≤ e → M * (u * pp σ r + u * nn σ r) ≤ M * e + e + M/2 * u
    whole false r n u h l = omega arith
    whole true r n u h l = omega arith

    finish : (σ : Bool) (r n : ℕ) → Near (M * (r * U)) (M * n) (n + M/2 * U) → n ≤ e
        → Near (M * (U * pp σ r + nn σ n)) (M * (U * nn σ r + pp σ n)) (e + M/2 * U)
    finish false r n w l = omega arith
    finish true r n w l = omega arith

-- ---- an error as a number d of its own: the coefficients stay small, which
-- `omega` needs (a number of more than 38 digits on its way stops it)
abbrev pub Within : ℕ → ℕ → ℕ → Type 0
Within x y e = (d : ℕ) × Near x y d × (M * d ≤ e)

pub unscale : (x y e : ℕ) → Near (M * x) (M * y) e → Within x y e
unscale x y e h = (e / M, (side x y h.0, side y x h.1), mul-div-le e M)
  where
    side : (x y : ℕ) → M * x ≤ M * y + e → x ≤ y + e / M
    side x y h = omega arith

-- ---- the order, and the other sign
pub le_parts : (x y : Float) → Fin x → Fin y → T (le x y) → P x + N y ≤ P y + N x
unfolding P N
le_parts x y f g h = below_of-le x y (sign x) (sign y) (mag x) (mag y) (is_of x f.0 f.1).0 (is_of y g.0 g.1).0 h

pub parts_le : (x y : Float) → Fin x → Fin y → P x + N y ≤ P y + N x → T (le x y)
unfolding P N
parts_le x y f g h = le_of_below x y (sign x) (sign y) (mag x) (mag y) (is_of x f.0 f.1).0 (is_of y g.0 g.1).0 h

neg-finite : (x : Float) → T (finite x) → T (finite (neg x))
unfolding neg
neg-finite nan h = h
neg-finite (inf s) h = h
neg-finite (fin s m e) h = tt

pub neg_parts : (x : Float) → Fin x → Fin (neg x) × (P (neg x) ≡ N x) × (N (neg x) ≡ P x)
unfolding P N
neg_parts x f =
    let i = (is_of x f.0 f.1).0 in
    let g : Fin (neg x) = (neg-finite x f.0, neg-fits B x f.1) in
    let p = parts (neg x) (not (sign x)) (mag x) g (neg_is x (sign x) (mag x) i) in
    (g, p.0 ∙ swap_pp (sign x) (mag x), p.1 ∙ swap_nn (sign x) (mag x))

-- ---- the quotient: r * y is near x * U
quot_signs : (s t : Bool) (r a b u m d : ℕ) → Near (m * (r * b)) (m * (a * u)) d
    → Near (m * (pp (unlike s t) r * pp t b + nn (unlike s t) r * nn t b + u * nn s a))
    (m * (pp (unlike s t) r * nn t b + nn (unlike s t) r * pp t b + u * pp s a)) d
quot_signs false false r a b u m d h = (omega arith, omega arith)
quot_signs false true r a b u m d h = (omega arith, omega arith)
quot_signs true false r a b u m d h = (omega arith, omega arith)
quot_signs true true r a b u m d h = (omega arith, omega arith)

pub div_err : (x y : Float) → Fin x → Fin y → 0 < P y + N y → rnd 53 ((P x + N x) * U) (P y + N y) < O
    → Fin (div B x y)
    × Near (M * (P (div B x y) * P y + N (div B x y) * N y + U * N x)) (M * (P (div B x y) * N y + N (div B x y) * P y + U * P x))
    ((P x + N x) * U + M/2 * (P y + N y))
div_err x y fx fy y0 o =
    let s = sign x in
    let t = sign y in
    let a = mag x in
    let b = mag y in
    let px = as_parts x in
    let py = as_parts y in
    let b0 : 0 < b = rw (sum_mag y) at y0 in
    let r = rnd 53 (a * U) b in
    let is = div_is x y s t a b (is_of x fx.0 fx.1).0 (is_of y fy.0 fy.1).0 b0 in
    let i : Is (div B x y) (unlike s t) r =
    subst (λ (z : Float). Is z (unlike s t) r) (sym is) (round_units (unlike s t) a b (rw (sum_mag x, sum_mag y) at o)) in
    let f : Fin (div B x y) = (is_finite_lem (div B x y) (unlike s t) r i, div-fits B x y) in
    let pr = parts (div B x y) (unlike s t) r f i in (
      f,
      rw (pr.0, pr.1, px.0, px.1, py.0, py.1, size_is s a, size_is t b)
          (quot_signs s t r a b U M (a * U + M/2 * b) (rnd_all 53 (a * U) b (lit< tt) b0)),
    )

-- and a quotient's size
pub div_sized : (x y : Float) → Fin x → Fin y → 0 < mag y → rnd 53 (mag x * U) (mag y) < O
    → Fin (div B x y) × (mag (div B x y) ≡ rnd 53 (mag x * U) (mag y))
div_sized x y f g p o =
    let s = unlike (sign x) (sign y) in
    let r = rnd 53 (mag x * U) (mag y) in
    let is = div_is x y (sign x) (sign y) (mag x) (mag y) (is_of x f.0 f.1).0 (is_of y g.0 g.1).0 p in
    sized (div B x y) s r (div-fits B x y) (subst (λ (z : Float). Is z s r) (sym is) (round_units s (mag x) (mag y) o))
