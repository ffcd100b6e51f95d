-- A fraction n / c rounded to a number of p leading binary digits, over ℕ alone. `rnd p n c`
-- is that number: `round` of the kit makes a float of it.
-- Proved: rounding keeps the order (`rnd-mono`), gives the same for equal fractions
-- (`rnd_same`), leaves a number of at most p digits alone (`rnd_fix`, `rnd_idem`),
-- and is off by half a unit of the last digit at most (`rnd_err`), so by n / 2 ^ p
-- where all p digits are in use (`rnd_rel`, `rnd_all`, `rnd_whole`).
-- All of it rests on two facts of `closest`, the nearest whole number: it keeps the order, and it is the number itself at a whole one.
-- Below it: values in units, the order and the operations by units, errors, and bounds computed for whole expressions, in the order in which they build on each other.
pub mod Units
pub mod NonNegative
pub mod Shares
pub mod Monotone
pub mod Order
pub mod Error
pub mod SignedPoly
pub mod Expression
pub mod Sizes
pub mod Signs
use Rattle.std.proofs.Common.{◌≡◌, sym, ap, ◌∙◌, subst, ◌⊎◌, inl, inr, ℕ, ◌+◌, ◌-◌, ◌*◌, ◌/◌, ◌%◌, ◌^◌, ◌≤◌, ◌<◌, le_refl, le_trans, le_of_eq, le_antisymm, lt_of_le_of_lt, lt_of_lt_of_le, eq-or-lt_of_le, eq-zero-or-pos, mul_assoc, mul_comm, mul-le-mul_right, mul-le-mul_left, mul-one, le_of_mul-le-mul_right, le-div_iff_mul-le, div-lt_iff_lt-mul, div-add-mod', mod-lt, mul-pos, lt_irrefl, arith, not, T, leb→le, eqb→eq, lit<, pow-add, pow_pos, pow_mono, shl_lt}
use Prim.Native.Nat.{compare, Ordering}
use lib.Dec.{is_le, compare_is_eq, nleb→lt}
use lib.Ieee.{size, nearest}
use lib.Ieee.Digits.{size-lt, size-le, size_reaches}
use lib.Ieee.Nearest.{closest, closest_mono, div_mono}
use lib.Ieee.Order.{drop, kept}

abbrev pub rnd : ℕ → ℕ → ℕ → ℕ
rnd p n c = kept p n c * 2 ^ drop p n c

-- |x - y| ≤ d
abbrev pub Near : ℕ → ℕ → ℕ → Type 0
Near x y d = (x ≤ y + d) × (y ≤ x + d)

-- ---- two facts on numbers that all files use
pub below_or_from : (i a : ℕ) → (i < a) ⊎ (a ≤ i)
below_or_from i a = elim (eq-zero-or-pos (a - i)) [ inl z ↦ inr (omega arith) | inr p ↦ inl (omega arith) ]

pub pow_part : (j k : ℕ) → k ≤ j → 2 ^ j ≡ 2 ^ (j - k) * 2 ^ k
pow_part j k h = let e : j ≡ j - k + k = omega arith in ap (λ (x : ℕ). 2 ^ x) e ∙ pow-add 2 (j - k) k

-- a number of 2 ^ z or more has more than z digits
pub size_above : (n z : ℕ) → 2 ^ z ≤ n → z < size n
size_above n z h =
    elim (below_or_from z (size n)) [ inl l ↦ l | inr g ↦ absurd (lt_irrefl n (lt_of_lt_of_le (size-lt n) (le_trans (pow_mono g) h))) ]

-- ---- the nearest whole number to a / b: a half away at most, and the number itself where b divides a
nearest_err : (o : Ordering) (a b q r : ℕ) → q * b + r ≡ a → (T (is_le o) → r * 2 ≤ b) → (T (not (is_le o)) → b < r * 2)
    → (T (compare_is_eq o) → r * 2 ≡ b) → r < b → Near (2 * (nearest q o * b)) (2 * a) b
nearest_err Ordering.lt a b q r e f g s l = let h = f tt in omega arith
nearest_err Ordering.eq a b q r e f g s l = let h = s tt in let d : q % 2 ≤ 1 = omega arith in omega (arith, mul-le-mul_right b d)
nearest_err Ordering.gt a b q r e f g s l = let h = g tt in omega arith

pub closest_err : (a b : ℕ) → 0 < b → Near (2 * (closest a b * b)) (2 * a) b
closest_err a b B =
    nearest_err (compare (a % b * 2) b) a b (a / b) (a % b) (div-add-mod' a b) (leb→le (a % b * 2) b) (nleb→lt (a % b * 2) b)
    (eqb→eq (a % b * 2) b) (mod-lt a B)

closest_at : (g u : ℕ) → 0 < u → closest (g * u) u ≡ g
closest_at g u U = near (closest (g * u) u) (closest_err (g * u) u U)
  where
    near : (x : ℕ) → Near (2 * (x * u)) (2 * (g * u)) u → x ≡ g
    near x h =
        let a = le_of_mul-le-mul_right {m = 2 * x} {n = 2 * g + 1} {k = u} (omega arith) U in
        let b = le_of_mul-le-mul_right {m = 2 * g} {n = 2 * x + 1} {k = u} (omega arith) U in
        omega arith

closest_le : (n u g : ℕ) → 0 < u → n ≤ g * u → closest n u ≤ g
closest_le n u g U h = le_trans (closest_mono n u (g * u) u U U (mul-le-mul_right u h)) (le_of_eq (closest_at g u U))

closest_ge : (n u g : ℕ) → 0 < u → g * u ≤ n → g ≤ closest n u
closest_ge n u g U h = le_trans (le_of_eq (sym (closest_at g u U))) (closest_mono (g * u) u n u U U (mul-le-mul_right u h))

-- ---- what is kept has p digits at most, and p at least where digits are dropped
kept_top : (p n c : ℕ) → 0 < c → kept p n c ≤ 2 ^ p
kept_top p n c C =
    let k = drop p n c in
    let z : size (n / c) ≤ p + k = omega arith in
    let a = (div-lt_iff_lt-mul C).0 (lt_of_lt_of_le (size-lt (n / c)) (pow_mono z)) in
    let b = ap (λ (x : ℕ). x * c) (pow-add 2 p k) in
    closest_le n (c * 2 ^ k) (2 ^ p) (mul-pos C (pow_pos k)) (omega arith)

drop_reaches : (p n c : ℕ) → 0 < p → 0 < c → 0 < drop p n c → 2 ^ (p - 1) * 2 ^ drop p n c * c ≤ n
drop_reaches p n c P C K =
    let k = drop p n c in
    let l : p - 1 + k < size (n / c) = omega arith in
    le_trans (le_of_eq (ap (λ (x : ℕ). x * c) (sym (pow-add 2 (p - 1) k)))) ((le-div_iff_mul-le C).0 (size_reaches (n / c) (p - 1 + k) l))

rnd_top : (p n c : ℕ) → 0 < c → rnd p n c ≤ 2 ^ (p + drop p n c)
rnd_top p n c C = le_trans (mul-le-mul_right (2 ^ drop p n c) (kept_top p n c C)) (le_of_eq (sym (pow-add 2 p (drop p n c))))

rnd_bottom : (p n c : ℕ) → 0 < p → 0 < c → 0 < drop p n c → 2 ^ (p - 1 + drop p n c) ≤ rnd p n c
rnd_bottom p n c P C K =
    let k = drop p n c in
    let a = drop_reaches p n c P C K in
    let b = closest_ge n (c * 2 ^ k) (2 ^ (p - 1)) (mul-pos C (pow_pos k)) (omega arith) in
    rw (pow-add 2 (p - 1) k) (mul-le-mul_right (2 ^ k) b)

-- ---- order: a larger fraction drops as many digits or more. Where it drops more, 2 ^ (p + the fewer) lies between the two results.
drop-mono : (p a b c d : ℕ) → 0 < b → 0 < d → a * d ≤ c * b → drop p a b ≤ drop p c d
drop-mono p a b c d B D h =
    let s = size-le (a / b) (size (c / d)) (lt_of_le_of_lt (div_mono a b c d B D h) (size-lt (c / d))) in omega arith

pub rnd-mono : (p a b c d : ℕ) → 0 < p → 0 < b → 0 < d → a * d ≤ c * b → rnd p a b ≤ rnd p c d
rnd-mono p a b c d P B D h = go (eq-or-lt_of_le (drop-mono p a b c d B D h))
  where
    alike : (w : ℕ) → 0 < w → closest a (b * w) ≤ closest c (d * w)
    alike w W = let m = mul-le-mul_right w h in closest_mono a (b * w) c (d * w) (mul-pos B W) (mul-pos D W) (omega arith)

    go : (drop p a b ≡ drop p c d) ⊎ (drop p a b < drop p c d) → rnd p a b ≤ rnd p c d
    go (inl e) =
        le_trans (le_of_eq (ap (λ (k : ℕ). closest a (b * 2 ^ k) * 2 ^ k) e))
        (mul-le-mul_right (2 ^ drop p c d) (alike (2 ^ drop p c d) (pow_pos (drop p c d))))
    go (inr l) =
        let s : 0 < drop p c d = omega arith in
        let w : p + drop p a b ≤ p - 1 + drop p c d = omega arith in
        le_trans (rnd_top p a b B) (le_trans (pow_mono w) (rnd_bottom p c d P D s))

pub rnd_same : (p a b c d : ℕ) → 0 < p → 0 < b → 0 < d → a * d ≡ c * b → rnd p a b ≡ rnd p c d
rnd_same p a b c d P B D e = le_antisymm (rnd-mono p a b c d P B D (le_of_eq e)) (rnd-mono p c d a b P D B (le_of_eq (sym e)))

-- ---- the error of `rnd`: half a unit in the last place
pub rnd_err : (p n c : ℕ) → 0 < c → Near (2 * (rnd p n c * c)) (2 * n) (c * 2 ^ drop p n c)
rnd_err p n c C = let k = drop p n c in let h = closest_err n (c * 2 ^ k) (mul-pos C (pow_pos k)) in (omega arith, omega arith)

-- ---- relative to a bound e of n / c and of the first number that has p digits
scale-near : (w x n d e P : ℕ) → P ≡ 2 * w → Near (2 * x) (2 * n) d → w * d ≤ e → Near (P * x) (P * n) e
scale-near w x n d e P q h k =
    let a = mul-le-mul_left w h.0 in
    let b = mul-le-mul_left w h.1 in
    let c = ap (λ (z : ℕ). z * x) q in
    let g = ap (λ (z : ℕ). z * n) q in
    (omega arith, omega arith)

rnd-near : (p n c e : ℕ) → 0 < p → 0 < c → n ≤ e → 2 ^ (p - 1) * c ≤ e → Near (2 ^ p * (rnd p n c * c)) (2 ^ p * n) e
rnd-near p n c e P C N E =
    let one : 1 ≤ p = omega arith in
    scale-near (2 ^ (p - 1)) (rnd p n c * c) n (c * 2 ^ drop p n c) e (2 ^ p) (pow_part p 1 one ∙ mul_comm (2 ^ (p - 1)) 2)
    (rnd_err p n c C) (step (drop p n c) (eq-zero-or-pos (drop p n c)) (drop_reaches p n c P C))
  where
    step : (k : ℕ) → (k ≡ 0) ⊎ (0 < k) → (0 < k → 2 ^ (p - 1) * 2 ^ k * c ≤ n) → 2 ^ (p - 1) * (c * 2 ^ k) ≤ e
    step k (inl z) f = subst (λ (x : ℕ). 2 ^ (p - 1) * (c * 2 ^ x) ≤ e) (sym z) (omega arith)
    step k (inr s) f = let h = f s in omega arith

-- n / c is at least 2 ^ (p - 1): all p digits are in use
pub rnd_rel : (p n c : ℕ) → 0 < p → 0 < c → 2 ^ (p - 1) * c ≤ n → Near (2 ^ p * (rnd p n c * c)) (2 ^ p * n) n
rnd_rel p n c P C N = rnd-near p n c n P C (le_refl n) N

-- any n / c, the subnormal ones included: an absolute error of half a unit more
pub rnd_all : (p n c : ℕ) → 0 < p → 0 < c → Near (2 ^ p * (rnd p n c * c)) (2 ^ p * n) (n + 2 ^ (p - 1) * c)
rnd_all p n c P C = rnd-near p n c (n + 2 ^ (p - 1) * c) P C (omega arith) (omega arith)

-- ---- whole numbers of units
pub rnd_fix : (p q j : ℕ) → q < 2 ^ p → rnd p (q * 2 ^ j) 1 ≡ q * 2 ^ j
rnd_fix p q j Q =
    let n = q * 2 ^ j in
    let k = drop p n 1 in
    let u : n / 1 < 2 ^ (p + j) = let s = shl_lt p j Q in omega arith in
    let l : k ≤ j = let s = size-le (n / 1) (p + j) u in omega arith in
    multiple n k (q * 2 ^ (j - k)) (ap (λ (x : ℕ). q * x) (pow_part j k l) ∙ sym (mul_assoc q (2 ^ (j - k)) (2 ^ k)))
  where
    multiple : (n k g : ℕ) → n ≡ g * 2 ^ k → closest n (1 * 2 ^ k) * 2 ^ k ≡ n
    multiple n k g e =
        let f : n ≡ g * (1 * 2 ^ k) = omega arith in
        ap (λ (x : ℕ). x * 2 ^ k) (ap (λ (x : ℕ). closest x (1 * 2 ^ k)) f ∙ closest_at g (1 * 2 ^ k)
        (mul-pos {m = 1} (lit< tt) (pow_pos k)))
        ∙ sym e

-- a whole number of units: no absolute part, since below 2 ^ p nothing is lost
pub rnd_whole : (p n : ℕ) → 0 < p → Near (2 ^ p * rnd p n 1) (2 ^ p * n) n
rnd_whole p n P = go (below_or_from n (2 ^ (p - 1)))
  where
    pred-le : p - 1 ≤ p
    pred-le = omega arith

    self : n < 2 ^ p → rnd p n 1 ≡ n
    self l = ap (λ (x : ℕ). rnd p x 1) (sym (mul-one n)) ∙ rnd_fix p n 0 l ∙ mul-one n

    go : (n < 2 ^ (p - 1)) ⊎ (2 ^ (p - 1) ≤ n) → Near (2 ^ p * rnd p n 1) (2 ^ p * n) n
    go (inl l) = let e = ap (λ (x : ℕ). 2 ^ p * x) (self (lt_of_lt_of_le l (pow_mono pred-le))) in omega arith
    go (inr g) =
        subst (λ (x : ℕ). Near (2 ^ p * x) (2 ^ p * n) n) (mul-one (rnd p n 1))
        (rnd_rel p n 1 P (lit< tt) (le_trans (le_of_eq (mul-one (2 ^ (p - 1)))) g))

pub rnd_idem : (p n c : ℕ) → 0 < p → 0 < c → rnd p (rnd p n c) 1 ≡ rnd p n c
rnd_idem p n c P C = go (kept p n c) (drop p n c) (eq-or-lt_of_le (kept_top p n c C))
  where
    go : (q k : ℕ) → (q ≡ 2 ^ p) ⊎ (q < 2 ^ p) → rnd p (q * 2 ^ k) 1 ≡ q * 2 ^ k
    go q k (inr l) = rnd_fix p q k l
    go q k (inl e) =
        let one : 1 ≤ p = omega arith in
        let up : 1 < 2 ^ p = lt_of_lt_of_le {m = 2 ^ 1} (lit< tt) (pow_mono one) in
        let s : 1 * 2 ^ (p + k) ≡ q * 2 ^ k = let a = pow-add 2 p k in let b = ap (λ (x : ℕ). x * 2 ^ k) e in omega arith in
        subst (λ (z : ℕ). rnd p z 1 ≡ z) s (rnd_fix p 1 (p + k) up)
