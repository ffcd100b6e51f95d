-- The square root that specs/SquareRoot.antt defines, by units.
-- Proved: `isqrt` is the whole root (`isqrt-root`), which is determined (`root_unique`); from the 54 leading digits Q of √(n * U)
-- the rounded root is half of Q, rounded up (`root_of_value`), at however many places below the unit it is computed (`root_by_places`);
-- and it is within 2 ^ -53 of √(n * U), relatively (`root_of_err`).
-- All that can stand below the 54 digits lies strictly between two midpoints, so it rounds the same way,
-- but for nothing at all: that is all that `sticky` has to tell.
use Rattle.std.proofs.Common.{◌≡◌, refl, sym, ap, ◌∙◌, subst, ◌⊎◌, inl, inr, ℕ, zero, suc, ◌+◌, ◌-◌, ◌*◌, ◌/◌, ◌%◌, ◌^◌, ◌≤◌, ◌<◌, zero-le, le_refl, le_trans, le_of_eq, lt_of_le_of_lt, lt_of_lt_of_le, lt_irrefl, mul_comm, mul_assoc, mul-le-mul_right, mul-le-mul_left, mul-le-mul, mul-one, one-mul, mul-pos, lt_of_mul-lt-mul_right, mul-lt-mul_of_pos_right, not-le_of_lt, le_of_suc-le-suc, eq-or-lt_of_le, le-add_right, add-zero, arith, add-one, Bool, true, false, not, cond, T, leb, eqb, leb→le, eqb→eq, lit≤, lit<, pow-add, pow_pos, pow_mono, Float}
use native.Mathlib.Nat.{eq_of_mul-eq-mul_right, mul-mul-mul_comm}
use lib.Ieee.Fits.{eq→eqb}
use lib.Dec.{nleb→lt}
use lib.Ieee.{binary64, size, round}
use lib.Ieee.Digits.{size-le}
use lib.Ieee.Nearest.{closest}
use lib.Ieee.Order.{drop}
use lib.Ieee.Scale.{grid_scale, normal_of_fraction}
use lib.Arith.{digits_lt}
use Rattle.floats.specs.SquareRoot.{isqrt, sticky, root_of_units}
use Rattle.floats.proofs.Rounding.{rnd, rnd_whole, Near, rnd_fix, rnd_same, closest_err, below_or_from, size_above}
use Rattle.floats.proofs.Rounding.Units.{U, O, O_is, U_is, U_pos, Is, round_units}

-- ---- the whole root
-- s is the whole root of n
abbrev pub Root : ℕ → ℕ → Type 0
Root s n = (s * s ≤ n) × (n < (s + 1) * (s + 1))

quarter : (n p : ℕ) → n < 4 * p → n / 4 < p
quarter n p h = omega arith

pub isqrt-root : (k n : ℕ) → n < 4 ^ k → Root (isqrt k n) n
unfolding isqrt
isqrt-root zero n h = omega arith
isqrt-root (suc k) n h =
    let s = isqrt k (n / 4) in
    let next = (2 * s + 1) * (2 * s + 1) in
    go s (isqrt-root k (n / 4) (quarter n (4 ^ k) h')) (leb next n) (leb→le next n) (nleb→lt next n)
  where
    h' : n < 4 * 4 ^ k
    h' = omega arith

    go : (s : ℕ) → Root s (n / 4) → (b : Bool) → (T b → (2 * s + 1) * (2 * s + 1) ≤ n) → (T (not b) → n < (2 * s + 1) * (2 * s + 1))
        → Root (2 * s + cond b 1 0) n
    go s r true f g = let l = f tt in omega arith
    go s r false f g = let l = g tt in omega arith

pub sq-lt : (x y : ℕ) → x * x < y * y → x < y
sq-lt x y l = elim (below_or_from x y) [ inl g ↦ g | inr g ↦ absurd (not-le_of_lt l (mul-le-mul g g)) ]

-- the whole root is determined
pub root_unique : (s t n : ℕ) → Root s n → Root t n → s ≡ t
root_unique s t n h k =
    let a = sq-lt s (t + 1) (lt_of_le_of_lt h.0 k.1) in
    let b = sq-lt t (s + 1) (lt_of_le_of_lt k.0 h.1) in
    omega arith

-- the root of a number of 107 or 108 digits has 54
pub digits_of-root : (Q W : ℕ) → Root Q W → 2 ^ 106 ≤ W → W < 2 ^ 108 → (2 ^ 53 ≤ Q) × (Q < 2 ^ 54)
digits_of-root Q W r l u =
    let a = sq-lt (2 ^ 53) (Q + 1) (lt_of_le_of_lt l r.1) in
    (omega arith, sq-lt Q (2 ^ 54) (lt_of_le_of_lt r.0 u))

-- ---- the root from its 54 leading digits: n * U is W * 4 ^ b, and Q is the whole root of W
scaled_root : (Q W R b w : ℕ) → Root Q W → Root R w → w ≡ W * (2 ^ b * 2 ^ b) → (Q * 2 ^ b ≤ R) × (R < (Q + 1) * 2 ^ b)
scaled_root Q W R b w h k e = (lo, hi)
  where
    lo : Q * 2 ^ b ≤ R
    lo =
        le_of_suc-le-suc (lt_of_lt_of_le
        (sq-lt (Q * 2 ^ b) (R + 1) (lt_of_le_of_lt
        (le_trans (le_of_eq (mul-mul-mul_comm Q (2 ^ b) Q (2 ^ b)))
        (le_trans (mul-le-mul_right (2 ^ b * 2 ^ b) h.0) (le_of_eq (sym e)))) k.1)) (le_of_eq (add-one R)))

    hi : R < (Q + 1) * 2 ^ b
    hi =
        let m = mul-lt-mul_of_pos_right h.1 (mul-pos (pow_pos b) (pow_pos b)) in
        sq-lt R ((Q + 1) * 2 ^ b) (lt_of_le_of_lt (le_trans k.0 (le_of_eq e))
        (lt_of_lt_of_le m (le_of_eq (mul-mul-mul_comm (Q + 1) (Q + 1) (2 ^ b) (2 ^ b)))))

sticky_is : (R w : ℕ) → ((R * R ≡ w) × (sticky R w ≡ 0)) ⊎ ((¬ (R * R ≡ w)) × (sticky R w ≡ 1))
unfolding sticky
sticky_is R w = go (eqb (R * R) w) (eqb→eq (R * R) w) (λ (e : R * R ≡ w). eq→eqb e)
  where
    go : (b : Bool) → (T b → R * R ≡ w) → (R * R ≡ w → T b)
        → ((R * R ≡ w) × (◌≡◌ {A = ℕ} (cond b 0 1) 0)) ⊎ ((¬ (R * R ≡ w)) × (◌≡◌ {A = ℕ} (cond b 0 1) 1))
    go true f g = inl (f tt, refl)
    go false f g = inr ((λ (e : R * R ≡ w). g e), refl)

-- ---- what stands below the 54 digits of Q does not matter to the rounding to 53, but that it is not 0
size_is : (n z : ℕ) → 2 ^ z ≤ n → n < 2 ^ (1 + z) → size n ≡ 1 + z
size_is n z l u = let a = size-le n (1 + z) u in let b = size_above n z l in omega arith

-- (Q + δ / v) / 2, to the nearest
half_up : (x Q v δ : ℕ) → 0 < δ → δ < v → Near (2 * (x * (2 * v))) (2 * (Q * v + δ)) (2 * v) → x ≡ (Q + 1) / 2
half_up x Q v δ d l h =
    let a : 2 * x < Q + 2 = lt_of_mul-lt-mul_right v (omega arith) in
    let b : Q < 2 * x + 1 = lt_of_mul-lt-mul_right v (omega arith) in
    omega arith

inexact_join : (Q b δ : ℕ) → 2 ^ 53 ≤ Q → Q < 2 ^ 54 → 0 < δ → δ < 2 ^ (b + 1)
    → rnd 53 (Q * 2 ^ (b + 1) + δ) 1 ≡ (Q + 1) / 2 * 2 ^ (1 + (b + 1))
inexact_join Q b δ l u d h =
    let v = 2 ^ (b + 1) in
    let n = Q * v + δ in
    let lo : 2 ^ (53 + (b + 1)) ≤ n = let p = pow-add 2 53 (b + 1) in let m = mul-le-mul_right v l in omega arith in
    let s : 1 + (53 + (b + 1)) ≡ 54 + (b + 1) = omega arith in
    let hi : n < 2 ^ (1 + (53 + (b + 1))) =
    lt_of_lt_of_le (digits_lt u h) (le_of_eq (sym (pow-add 2 54 (b + 1)) ∙ ap (λ (x : ℕ). 2 ^ x) (sym s))) in
    let w : n / 1 ≡ n = omega arith in
    let z = ap size w ∙ size_is n (53 + (b + 1)) lo hi in
    let k : drop 53 n 1 ≡ 1 + (b + 1) = omega arith in
    let c : 1 * 2 ^ (1 + (b + 1)) ≡ 2 * v = one-mul (2 ^ (1 + (b + 1))) ∙ pow-add 2 1 (b + 1) in
    ap (λ (x : ℕ). closest n (1 * 2 ^ x) * 2 ^ x) k
    ∙ ap (λ (x : ℕ). x * 2 ^ (1 + (b + 1)))
    (ap (closest n) c ∙ half_up (closest n (2 * v)) Q v δ d h (closest_err n (2 * v) (mul-pos {m = 2} (lit< tt) (pow_pos (b + 1)))))

exact_join : (Q b : ℕ) → Q < 2 ^ 54 → Q % 2 ≡ 0 → rnd 53 (Q * 2 ^ (b + 1)) 1 ≡ (Q + 1) / 2 * 2 ^ (1 + (b + 1))
exact_join Q b u e =
    subst (λ (z : ℕ). rnd 53 z 1 ≡ (Q + 1) / 2 * 2 ^ (1 + (b + 1))) (sym same) (rnd_fix 53 ((Q + 1) / 2) (1 + (b + 1)) under)
  where
    halves : Q ≡ (Q + 1) / 2 * 2
    halves = omega arith

    same : Q * 2 ^ (b + 1) ≡ (Q + 1) / 2 * 2 ^ (1 + (b + 1))
    same =
        ap (λ (x : ℕ). x * 2 ^ (b + 1)) halves
        ∙ mul_assoc ((Q + 1) / 2) 2 (2 ^ (b + 1))
        ∙ ap (λ (x : ℕ). (Q + 1) / 2 * x) (sym (pow-add 2 1 (b + 1)))

    under : (Q + 1) / 2 < 2 ^ 53
    under = omega arith

-- the root of an even square is even
pub even_root : (Q W : ℕ) → Q * Q ≡ W → W % 2 ≡ 0 → Q % 2 ≡ 0
even_root Q W e h = go (Q % 2) refl
  where
    go : (r : ℕ) → Q % 2 ≡ r → r ≡ 0
    go zero q = refl
    go (suc r) q = let d : Q ≡ Q / 2 * 2 + 1 = omega arith in absurd (omega (arith, sym e ∙ ap (λ (z : ℕ). z * z) d))

-- 2 * R + sticky is Q * 2 ^ (b + 1) and something below 2 ^ (b + 1) that is not 0, unless Q is the root of W exactly; then Q is even
pub root_join : (Q W R b w : ℕ) → Root Q W → Root R w → w ≡ W * (2 ^ b * 2 ^ b) → W % 2 ≡ 0 → 2 ^ 53 ≤ Q → Q < 2 ^ 54
    → rnd 53 (2 * R + sticky R w) 1 ≡ (Q + 1) / 2 * 2 ^ (1 + (b + 1))
root_join Q W R b w h k e ev l u = go (eq-or-lt_of_le h.0) (sticky_is R w)
  where
    c : (Q * 2 ^ b ≤ R) × (R < (Q + 1) * 2 ^ b)
    c = scaled_root Q W R b w h k e

    sq : Q * 2 ^ b * (Q * 2 ^ b) ≡ Q * Q * (2 ^ b * 2 ^ b)
    sq = mul-mul-mul_comm Q (2 ^ b) Q (2 ^ b)

    double : Q * 2 ^ (b + 1) ≡ 2 * (Q * 2 ^ b)
    double = ap (λ (z : ℕ). Q * z) (pow-add 2 b 1) ∙ regroup Q (2 ^ b)
      where
        regroup : (q v : ℕ) → q * (v * 2) ≡ 2 * (q * v)
        regroup q v = omega arith

    twice : 2 ^ (b + 1) ≡ 2 * 2 ^ b
    twice = pow-add 2 b 1 ∙ mul_comm (2 ^ b) 2

    rest-is : (q v r s a z : ℕ) → z ≡ 2 * (q * v) → a ≡ 2 * v → q * v ≤ r → r < (q + 1) * v → s ≤ 1 → 0 < 2 * r + s - z
        → (0 < 2 * r + s - z) × (2 * r + s - z < a) × (z + (2 * r + s - z) ≡ 2 * r + s)
    rest-is q v r s a z d t p o n m = omega arith

    inexact : (s : ℕ) → sticky R w ≡ s → s ≤ 1 → 0 < 2 * R + s - Q * 2 ^ (b + 1)
        → rnd 53 (2 * R + sticky R w) 1 ≡ (Q + 1) / 2 * 2 ^ (1 + (b + 1))
    inexact s f g i =
        let m = rest-is Q (2 ^ b) R s (2 ^ (b + 1)) (Q * 2 ^ (b + 1)) double twice c.0 c.1 g i in
        ap (λ (z : ℕ). rnd 53 (2 * R + z) 1) f
        ∙ ap (λ (z : ℕ). rnd 53 z 1) (sym m.2)
        ∙ inexact_join Q b (2 * R + s - Q * 2 ^ (b + 1)) l u m.0 m.1

    past-by-sticky : (z q r : ℕ) → z ≡ 2 * q → q ≤ r → 0 < 2 * r + 1 - z
    past-by-sticky z q r a b = omega arith

    past-by-digits : (z q r : ℕ) → z ≡ 2 * q → q < r → 0 < 2 * r + 0 - z
    past-by-digits z q r a b = omega arith

    go : (Q * Q ≡ W) ⊎ (Q * Q < W) → ((R * R ≡ w) × (sticky R w ≡ 0)) ⊎ ((¬ (R * R ≡ w)) × (sticky R w ≡ 1))
        → rnd 53 (2 * R + sticky R w) 1 ≡ (Q + 1) / 2 * 2 ^ (1 + (b + 1))
    go (inl q) s =
        let x : Q * 2 ^ b * (Q * 2 ^ b) ≡ w = sq ∙ ap (λ (z : ℕ). z * (2 ^ b * 2 ^ b)) q ∙ sym e in
        let r : R ≡ Q * 2 ^ b = root_unique R (Q * 2 ^ b) w k (le_of_eq x, above (Q * 2 ^ b) w x) in
        let t : sticky R w ≡ 0 = none s (ap (λ (z : ℕ). z * z) r ∙ x) in
        ap (λ (z : ℕ). rnd 53 (2 * R + z) 1) t
        ∙ ap (λ (z : ℕ). rnd 53 z 1) (add-zero (2 * R) ∙ ap (λ (z : ℕ). 2 * z) r ∙ sym double)
        ∙ exact_join Q b u (even_root Q W q ev)
      where
        above : (y w : ℕ) → y * y ≡ w → w < (y + 1) * (y + 1)
        above y w x = omega arith

        none : ((R * R ≡ w) × (sticky R w ≡ 0)) ⊎ ((¬ (R * R ≡ w)) × (sticky R w ≡ 1)) → R * R ≡ w → sticky R w ≡ 0
        none (inl a) x = a.1
        none (inr a) x = absurd (a.0 x)
    go (inr q) (inr s) = inexact 1 s.1 (le_refl 1) (past-by-sticky (Q * 2 ^ (b + 1)) (Q * 2 ^ b) R double c.0)
    go (inr q) (inl s) = inexact 0 s.1 zero-le (past-by-digits (Q * 2 ^ (b + 1)) (Q * 2 ^ b) R double (apart (eq-or-lt_of_le c.0)))
      where
        apart : (Q * 2 ^ b ≡ R) ⊎ (Q * 2 ^ b < R) → Q * 2 ^ b < R
        apart (inr g) = g
        apart (inl g) =
            absurd (lt_irrefl w (lt_of_le_of_lt (le_of_eq (sym s.0 ∙ ap (λ (z : ℕ). z * z) (sym g) ∙ sq))
            (lt_of_lt_of_le (mul-lt-mul_of_pos_right q (mul-pos (pow_pos b) (pow_pos b))) (le_of_eq (sym e)))))

-- ---- so the root of a value that is n units, n * U being W * 4 ^ b, is (Q + 1) / 2 * 2 ^ (b + 1) units
isqrt_of : (n : ℕ) → n < O → Root (isqrt 2098 (n * 2 ^ 1074)) (n * 2 ^ 1074)
unfolding O
isqrt_of n h = isqrt-root 2098 (n * 2 ^ 1074) (lt_of_lt_of_le (mul-lt-mul_of_pos_right h (pow_pos 1074)) (lit≤ tt))

fine_pos : (t : ℕ) → 0 < 2 ^ t * U
fine_pos t = mul-pos (pow_pos t) U_pos

grid_U : (m t : ℕ) → 2 ^ 52 * (2 ^ t * U) ≤ m * U → rnd 53 (m * 2 ^ t * U) (2 ^ t * U) ≡ rnd 53 (m * U) (2 ^ t * U) * 2 ^ t
unfolding U
grid_U m t h = grid_scale binary64 m (2 ^ t * U) t (fine_pos t) (normal_of_fraction binary64 m (2 ^ t * U) (fine_pos t) h)

-- a fraction m / 2 ^ t of units, times 2 ^ t: rounding does not see the factor, since m / 2 ^ t has 53 digits at least
finer : (m t : ℕ) → 2 ^ 53 * 2 ^ t ≤ m → rnd 53 (m * U) (2 ^ t * U) * 2 ^ t ≡ rnd 53 m 1
finer m t h =
    sym (grid_U m t (le_trans (le_of_eq (sym (mul_assoc (2 ^ 52) (2 ^ t) U)))
    (mul-le-mul_right U (le_trans (mul-le-mul_right {m = 2 ^ 52} {n = 2 ^ 53} (2 ^ t) (lit≤ tt)) h))))
    ∙ rnd_same 53 (m * 2 ^ t * U) (2 ^ t * U) m 1 (lit< tt) (fine_pos t) (lit< tt) (mul-one (m * 2 ^ t * U) ∙ mul_assoc m (2 ^ t) U)

-- the root by s places below the unit, of which the definition has none: n * U * 4 ^ s is W * 4 ^ c, R its whole root, and c is b + s
pub root_by_places : (s Q W R b c w : ℕ) → c ≡ b + s → Root Q W → Root R w → w ≡ W * (2 ^ c * 2 ^ c) → W % 2 ≡ 0 → 2 ^ 53 ≤ Q
    → Q < 2 ^ 54
    → (Q + 1) / 2 * 2 ^ (b + 1) < O
    → Is (round binary64 false (2 * R + sticky R w) (2 ^ (s + 1) * U)) false ((Q + 1) / 2 * 2 ^ (b + 1))
root_by_places s Q W R b c w p h k e ev l u o =
    let m = 2 * R + sticky R w in
    let t = s + 1 in
    let q = (Q + 1) / 2 in
    let reach : 2 ^ 53 * 2 ^ s ≤ R =
    le_trans (mul-le-mul l (pow_mono (let g : s ≤ c = omega arith in g))) (scaled_root Q W R c w h k e).0 in
    let big : 2 ^ 53 * 2 ^ t ≤ m =
    le_trans (le_of_eq (ap (λ (z : ℕ). 2 ^ 53 * z) (pow-add 2 s 1) ∙ sym (mul_assoc (2 ^ 53) (2 ^ s) 2)))
    (le_trans (mul-le-mul_right 2 reach) (le_trans (le_of_eq (mul_comm R 2)) (le-add_right (2 * R) (sticky R w)))) in
    let places : q * 2 ^ (1 + (c + 1)) ≡ q * 2 ^ (b + 1) * 2 ^ t =
    ap (λ (z : ℕ). q * 2 ^ z) (let g : 1 + (c + 1) ≡ b + 1 + t = omega arith in g)
    ∙ ap (λ (z : ℕ). q * z) (pow-add 2 (b + 1) t)
    ∙ sym (mul_assoc q (2 ^ (b + 1)) (2 ^ t)) in
    let g : rnd 53 (m * U) (2 ^ t * U) ≡ q * 2 ^ (b + 1) =
    eq_of_mul-eq-mul_right (2 ^ t) (pow_pos t) (rnd 53 (m * U) (2 ^ t * U)) (q * 2 ^ (b + 1))
    (finer m t big ∙ root_join Q W R c w h k e ev l u ∙ places) in
    subst (λ (z : ℕ). Is (round binary64 false m (2 ^ t * U)) false z) g
    (round_units false m (2 ^ t * U) (subst (λ (z : ℕ). z < O) (sym g) o))

-- the definition, with U shut
pub root_of_is : (n : ℕ)
    → root_of_units binary64 n
    ≡ round binary64 false (2 * isqrt 2098 (n * 2 ^ 1074) + sticky (isqrt 2098 (n * 2 ^ 1074)) (n * 2 ^ 1074)) (2 * U)
unfolding root_of_units U
root_of_is n = refl

pub root_of_value : (n Q W b : ℕ) → n < O → n * U ≡ W * (2 ^ b * 2 ^ b) → Root Q W → W % 2 ≡ 0 → 2 ^ 53 ≤ Q → Q < 2 ^ 54
    → (Q + 1) / 2 * 2 ^ (b + 1) < O
    → Is (root_of_units binary64 n) false ((Q + 1) / 2 * 2 ^ (b + 1))
root_of_value n Q W b nO e h ev l u o =
    let w = n * 2 ^ 1074 in
    subst (λ (z : Float). Is z false ((Q + 1) / 2 * 2 ^ (b + 1))) (sym (root_of_is n))
    (root_by_places 0 Q W (isqrt 2098 w) b b w (omega arith) h (isqrt_of n nO) (ap (λ (z : ℕ). n * z) (sym U_is) ∙ e) ev l u o)

-- ---- the error of the root, for every value above zero: with R ≤ √(n * U) < R + 1 and m one of 2 * R and 2 * R + 1,
-- twice the root ρ is within m / 2 ^ 53 of m
sticky-le_one : (R w : ℕ) → sticky R w ≤ 1
sticky-le_one R w = go (sticky_is R w)
  where
    go : ((R * R ≡ w) × (sticky R w ≡ 0)) ⊎ ((¬ (R * R ≡ w)) × (sticky R w ≡ 1)) → sticky R w ≤ 1
    go (inl a) = let e = a.1 in omega arith
    go (inr a) = let e = a.1 in omega arith

pub record RootErr (n ρ : ℕ) : Type 0 where
  pub R : ℕ
  pub m : ℕ
  pub low : R * R ≤ n * U
  pub high : n * U < (R + 1) * (R + 1)
  pub cut : (2 * R ≤ m) × (m ≤ 2 * R + 1)
  pub near : Near (2 ^ 53 * (2 * ρ)) (2 ^ 53 * m) m
  pub exact : ρ ≡ rnd 53 (m * U) (2 * U)

pub root_of_err : (n : ℕ) → 0 < n → n < O → (ρ : ℕ) × Is (root_of_units binary64 n) false ρ × RootErr n ρ
root_of_err n p nO =
    let w = n * 2 ^ 1074 in
    let R = isqrt 2098 w in
    let k = isqrt_of n nO in
    let st = sticky R w in
    let m = 2 * R + st in
    let wU : n * U ≡ w = ap (λ (z : ℕ). n * z) U_is in
    let g : 2 ^ 537 < R + 1 =
    sq-lt (2 ^ 537) (R + 1)
    (lt_of_le_of_lt (le_trans (le_of_eq (sym (one-mul (2 ^ 1074)))) (mul-le-mul_right (2 ^ 1074) p)) k.1) in
    let big : 2 ^ 53 * 2 ≤ m =
    le_trans {m = 2 * 2 ^ 537} (lit≤ tt)
    (le_trans (mul-le-mul_left 2 (le_of_suc-le-suc (lt_of_lt_of_le g (le_of_eq (add-one R))))) (le-add_right (2 * R) st)) in
    let ρ = rnd 53 (m * U) (2 * U) in
    let e : ρ * 2 ≡ rnd 53 m 1 = finer m 1 big in
    let nr : Near (2 ^ 53 * (2 * ρ)) (2 ^ 53 * m) m =
    subst (λ (z : ℕ). Near (2 ^ 53 * z) (2 ^ 53 * m) m) (sym e ∙ mul_comm ρ 2)
    (rnd_whole 53 m (lit< tt)) in
    let top : R < 2 ^ 1586 =
    sq-lt R (2 ^ 1586)
    (lt_of_le_of_lt k.0 (subst (λ (z : ℕ). w < z * 2 ^ 1074) O_is (mul-lt-mul_of_pos_right nO (pow_pos 1074)))) in
    let ρO : ρ < O =
    lt_of_le_of_lt (omega arith)
    (lt_of_le_of_lt (le-m R st (sticky-le_one R w))
    (subst (λ (z : ℕ). 2 * R + 1 < z) (sym O_is)
    (lt_of_le_of_lt (twice R (2 ^ 1586) top) (lit< {m = 2 * 2 ^ 1586} {n = 2 ^ 2098} tt)))) in (
      ρ,
      subst (λ (z : Float). Is z false ρ) (sym (root_of_is n))
          (round_units false m (2 * U) ρO),
      record {
        R = R;
        m = m;
        low = le_trans k.0 (le_of_eq (sym wU));
        high = lt_of_le_of_lt (le_of_eq wU) k.1;
        cut = (le-add_right (2 * R) st, le-m R st (sticky-le_one R w));
        near = nr;
        exact = refl;
      },
    )
  where
    le-m : (R s : ℕ) → s ≤ 1 → 2 * R + s ≤ 2 * R + 1
    le-m R s h = omega arith

    twice : (R b : ℕ) → R < b → 2 * R + 1 ≤ 2 * b
    twice R b h = omega arith
