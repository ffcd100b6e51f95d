-- The square root is what IEEE 754 wants it to be: the value nearest to the real root,
-- and the special values (`SquareRoot` of specs/SquareRoot.antt).
-- The root of n units is q * 2 ^ (b + 1) units, q being half of the 54 leading digits Q of √(n *
-- U), rounded up. Those digits put √(n * U) strictly between two midpoints,
-- (2 * q - 1) * 2 ^ b and (2 * q + 1) * 2 ^ b, and values of 53 digits next to q * 2 ^ (b + 1) are 2 ^ (b + 1) apart. The one
-- exception, the half step below a power of two, is met where Q is even, and then √(n * U) is not below the root.
use Rattle.std.proofs.Common.{◌≡◌, refl, sym, ap, ◌∙◌, subst, ◌⊎◌, inl, inr, ℕ, zero, suc, ◌+◌, ◌-◌, ◌*◌, ◌/◌, ◌%◌, ◌^◌, ◌≤◌, ◌<◌, le_trans, le_of_eq, lt_of_le_of_lt, lt_of_lt_of_le, mul_assoc, mul-le-mul_right, mul-le-mul, mul-pos, mul-lt-mul_of_pos_right, lt_of_mul-lt-mul_right, eq-or-lt_of_le, arith, Bool, false, T, ltb→lt, pow-add, pow_pos, Float}
use native.Mathlib.Nat.{mul-mul-mul_comm}
use lib.Ieee.{fin, binary64, up, down, size, fits, lt}
use lib.Ieee.Order.{drop, kept}
use Rattle.floats.specs.Float.{f0, is_finite}
use Rattle.floats.specs.SquareRoot.{root_of_units, square_root, sqrt, Size, Nearer, NearestRoot, SquareRoot}
use Rattle.floats.proofs.Rounding.{rnd, below_or_from, pow_part, size_above}
use Rattle.floats.proofs.Rounding.Units.{U, Is, mag, Held, is_of, units_pos}
use Rattle.floats.proofs.square_root.LeadingDigits.{Leading, leading, root_units, some_units, below_infinity}
use Rattle.floats.proofs.square_root.WholeRoot.{even_root, root_of_value}
use Rattle.floats.proofs.square_root.RootBits.{root_of-fits, root_by_units, size_of, below_zero}
use Rattle.floats.proofs.Rounding.NonNegative.{lt_of_pos}

-- ---- numbers of 53 digits: from 2 ^ 52 steps of 2 ^ j on they are multiples of the step
on_grid : (c j : ℕ) → rnd 53 c 1 ≡ c → 2 ^ (52 + j) ≤ c → (d : ℕ) × (c ≡ d * 2 ^ j)
on_grid c j h l =
    let k = drop 53 c 1 in
    let w : c / 1 ≡ c = omega arith in
    let s : 52 + j < size (c / 1) = subst (λ (z : ℕ). 52 + j < size z) (sym w) (size_above c (52 + j) l) in
    let g : j ≤ k = omega arith in (
      kept 53 c 1 * 2 ^ (k - j),
      sym h
          ∙ ap (λ (z : ℕ). kept 53 c 1 * z) (pow_part k j g)
          ∙ sym (mul_assoc (kept 53 c 1) (2 ^ (k - j)) (2 ^ j)),
    )

-- so the next one up from q steps is q + 1 steps, and the next one down from s + 1 steps is s steps
next_up : (c q j : ℕ) → rnd 53 c 1 ≡ c → 2 ^ 52 ≤ q → q * 2 ^ j < c → (q + 1) * 2 ^ j ≤ c
next_up c q j h l o =
    let d = on_grid c j h (le_trans (le_of_eq (pow-add 2 52 j)) (le_trans (mul-le-mul_right (2 ^ j) l) (le_trans (omega arith) o))) in
    let m = lt_of_mul-lt-mul_right (2 ^ j) (subst (λ (z : ℕ). q * 2 ^ j < z) d.1 o) in
    let u : q + 1 ≤ d.0 = omega arith in
    le_trans (mul-le-mul_right (2 ^ j) u) (le_of_eq (sym d.1))

next_down : (c s j : ℕ) → rnd 53 c 1 ≡ c → 2 ^ 52 ≤ s → c < (s + 1) * 2 ^ j → c ≤ s * 2 ^ j
next_down c s j h l o = go (below_or_from c (2 ^ (52 + j)))
  where
    go : (c < 2 ^ (52 + j)) ⊎ (2 ^ (52 + j) ≤ c) → c ≤ s * 2 ^ j
    go (inl g) = le_trans (let m : c ≤ 2 ^ (52 + j) = omega arith in m) (le_trans (le_of_eq (pow-add 2 52 j)) (mul-le-mul_right (2 ^ j) l))
    go (inr g) =
        let d = on_grid c j h g in
        let m = lt_of_mul-lt-mul_right (2 ^ j) (subst (λ (z : ℕ). z < (s + 1) * 2 ^ j) d.1 o) in
        let u : d.0 ≤ s = omega arith in
        le_trans (le_of_eq d.1) (mul-le-mul_right (2 ^ j) u)

-- ---- √w against y, where w is W * g ^ 2 and √W is known against k
below_mid : (w W k g y : ℕ) → w ≡ W * (g * g) → 0 < g → W < k * k → k * g ≤ y → w < y * y
below_mid w W k g y e p l h =
    lt_of_lt_of_le (subst (λ (z : ℕ). z < k * k * (g * g)) (sym e) (mul-lt-mul_of_pos_right l (mul-pos p p)))
    (le_trans (le_of_eq (mul-mul-mul_comm k k g g)) (mul-le-mul h h))

above_mid : (w W k g y : ℕ) → w ≡ W * (g * g) → 0 < g → k * k < W → y ≤ k * g → y * y < w
above_mid w W k g y e p l h =
    lt_of_le_of_lt (le_trans (mul-le-mul h h) (le_of_eq (mul-mul-mul_comm k g k g)))
    (subst (λ (z : ℕ). k * k * (g * g) < z) (sym e) (mul-lt-mul_of_pos_right l (mul-pos p p)))

above_mid' : (w W k g y : ℕ) → w ≡ W * (g * g) → k * k ≤ W → y < k * g → y * y < w
above_mid' w W k g y e l h =
    lt_of_lt_of_le (let m = mul-le-mul h h in omega arith)
    (le_trans (le_of_eq (mul-mul-mul_comm k g k g)) (le_trans (mul-le-mul_right (g * g) l) (le_of_eq (sym e))))

-- ---- the root of n units, against every c that binary64 holds
nearest_units : (n c : ℕ) (v : Leading n) → rnd 53 c 1 ≡ c → Nearer (n * U) (root_units v) c
nearest_units n c v h = (up-side, λ (l : c < root_units v). down-side l (parity v.Q))
  where
    q : ℕ
    q = (v.Q + 1) / 2

    g : ℕ
    g = 2 ^ (v.b + 1)

    four : 4 * (n * U) ≡ v.W * (g * g)
    four = ap (λ (z : ℕ). 4 * z) v.scaled ∙ regroup v.W (2 ^ v.b) ∙ ap (λ (z : ℕ). v.W * (z * z)) (sym (pow-add 2 v.b 1))
      where
        regroup : (w x : ℕ) → 4 * (w * (x * x)) ≡ w * (x * 2 * (x * 2))
        regroup w x = omega arith

    up-side : q * g < c → 4 * (n * U) < (q * g + c) * (q * g + c)
    up-side l =
        let a = v.low in
        let t : 2 ^ 52 ≤ q = omega arith in
        let k : v.Q + 1 ≤ 2 * q + 1 = omega arith in
        let u = next_up c q (v.b + 1) h t l in
        below_mid (4 * (n * U)) v.W (2 * q + 1) g (q * g + c) four (pow_pos (v.b + 1))
        (lt_of_lt_of_le v.root.1 (mul-le-mul k k)) (omega arith)

    parity : (Q : ℕ) → (Q ≡ 2 * ((Q + 1) / 2)) ⊎ (Q + 1 ≡ 2 * ((Q + 1) / 2))
    parity Q = elim (below_or_from (Q % 2) 1) [ inl z ↦ inl (omega arith) | inr z ↦ inr (omega arith) ]

    -- the square of an odd number is odd, and W is even
    inexact : v.Q + 1 ≡ 2 * q → v.Q * v.Q < v.W
    inexact o =
        elim (eq-or-lt_of_le v.root.0) [ inl e ↦ absurd (let z = even_root v.Q v.W e v.even in omega arith) | inr l ↦ l ]

    down-side : c < q * g → (v.Q ≡ 2 * q) ⊎ (v.Q + 1 ≡ 2 * q) → (q * g + c) * (q * g + c) < 4 * (n * U)
    down-side l (inl e) =
        above_mid' (4 * (n * U)) v.W v.Q g (q * g + c) four v.root.0 (let m = ap (λ (z : ℕ). z * g) e in omega arith)
    down-side l (inr o) =
        let a = v.low in
        let t : 2 ^ 52 ≤ q - 1 = omega arith in
        let s : q ≡ q - 1 + 1 = omega arith in
        let u = next_down c (q - 1) (v.b + 1) h t (subst (λ (z : ℕ). c < z * g) s l) in
        above_mid (4 * (n * U)) v.W v.Q g (q * g + c) four (pow_pos (v.b + 1)) (inexact o) (join v.Q (q - 1) q g c s o u)
      where
        join : (Q s q g c : ℕ) → q ≡ s + 1 → Q + 1 ≡ 2 * q → c ≤ s * g → q * g + c ≤ Q * g
        join Q s q g c a o u =
            let e : Q ≡ 2 * s + 1 = omega arith in
            let m = ap (λ (z : ℕ). z * g) e in
            let k = ap (λ (z : ℕ). z * g) a in
            omega arith

-- ---- values
finite_of : (x : Float) (s : Bool) (n : ℕ) → Is x s n → T (is_finite x)
unfolding is_finite
finite_of (fin t m e) s n h = tt
finite_of lib.Ieee.nan s n h = elim h [ ]
finite_of (lib.Ieee.inf _) s n h = elim h [ ]

root-near : (x : Float) (n : ℕ) → Is x false n → Held n → 0 < n → NearestRoot x (root_of_units binary64 n)
unfolding is_finite U
root-near x n i held p = record {
  finite = finite_of (root_of_units binary64 n) false (root_units v) r;
  holds = root_of-fits n;
  above = lt_of_pos (root_of_units binary64 n) (root_units v) r (some_units v);
  n = n;
  a = root_units v;
  x_size = size_of x false n i;
  r_size = size_of (root_of_units binary64 n) false (root_units v) r;
  nearest = against;
}
  where
    v : Leading n
    v = leading n held p

    r : Is (root_of_units binary64 n) false (root_units v)
    r = root_of_value n v.Q v.W v.b held.1 v.scaled v.root v.even v.low v.high (below_infinity v)

    against : (y : Float) → T (is_finite y) → T (fits binary64 y) → (b : ℕ) × Size y b × Nearer (n * U) (root_units v) b
    against (fin s m e) f t =
        let y = fin s m e in
        let k = is_of y tt t in
        (mag y, size_of y s (mag y) k.0, nearest_units n (mag y) v k.1.0)
    against lib.Ieee.nan f t = elim f [ ]
    against (lib.Ieee.inf _) f t = elim f [ ]

above_zero : (x : Float) → T (is_finite x) → T (fits binary64 x) → T (lt f0 x) → NearestRoot x (sqrt x)
unfolding is_finite lt
above_zero (fin false zero e) f t l = absurd (none (up e) (down e) (ltb→lt (0 * 1 * down e) (0 * up e * 1) l))
  where
    none : (u d : ℕ) → 0 * 1 * d < 0 * u * 1 → ⊥
    none u d h = omega arith
above_zero (fin false (suc m) e) f t l =
    let x = fin false (suc m) e in
    let i = is_of x tt t in
    subst (λ (z : Float). NearestRoot x z) (sym (root_by_units m e)) (root-near x (mag x) i.0 i.1 (units_pos m (mag x) e i.0.1))
above_zero lib.Ieee.nan f t l = elim f [ ]
above_zero (lib.Ieee.inf _) f t l = elim f [ ]
above_zero (fin mathlib.Core.Bool.true _ e) f t l = elim l [ ]

pub nearest-root : SquareRoot sqrt
unfolding square_root
nearest-root = record {
  of_nan = refl;
  of_infinity = refl;
  of_zero = λ (s : Bool). refl;
  below_zero = λ (x : Float) (t : T (lt x f0)). sym (below_zero x t);
  above_zero = above_zero;
}
