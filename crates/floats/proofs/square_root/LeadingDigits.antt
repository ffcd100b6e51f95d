-- The 54 leading digits Q of √(n * U), for n units of 53 digits: n * U is W * 4 ^ b, W being even and of 107 or 108 digits.
-- Half of them, rounded up, are the digits of the root, however it is computed: `nearest-root` and `by_processor` start from them.
use Rattle.std.proofs.Common.{ℕ, ◌≡◌, sym, ap, ◌∙◌, subst, ◌+◌, ◌-◌, ◌*◌, ◌/◌, ◌%◌, ◌^◌, ◌≤◌, ◌<◌, le_trans, le_of_eq, lt_of_le_of_lt, lt_of_lt_of_le, mul_assoc, mul-le-mul_right, mul-le-mul, mul-pos, mul-lt-mul_of_pos_right, lt_of_mul-lt-mul_right, le_of_mul-le-mul_right, arith, lit<, pow-add, pow_pos, pow_mono}
use native.Mathlib.Nat.{mul-mod_left}
use lib.Ieee.{size}
use lib.Ieee.Digits.{size-lt, size-le, size_reaches}
use lib.Ieee.Order.{drop, kept}
use Rattle.floats.specs.SquareRoot.{isqrt}
use Rattle.floats.proofs.Rounding.{size_above}
use Rattle.floats.proofs.Rounding.Units.{U, O, U_is, O_is, Held}
use Rattle.floats.proofs.square_root.WholeRoot.{Root, isqrt-root, digits_of-root}

pub record Leading (n : ℕ) : Type 0 where
  pub Q : ℕ
  pub W : ℕ
  pub b : ℕ
  pub scaled : n * U ≡ W * (2 ^ b * 2 ^ b)
  pub root : Root Q W
  pub even : W % 2 ≡ 0
  pub low : 2 ^ 53 ≤ Q
  pub high : Q < 2 ^ 54
  pub few : b ≤ 1532

pub leading : (n : ℕ) → Held n → 0 < n → Leading n
leading n held p = record {
  Q = isqrt 54 W;
  W = W;
  b = b;
  scaled = scaled;
  root = root;
  even = even (kept 53 n 1) (2 ^ e) (2 ^ (e + 1)) (pow-add 2 e 1);
  low = (digits_of-root (isqrt 54 W) W root least most).0;
  high = (digits_of-root (isqrt 54 W) W root least most).1;
  few = few;
}
  where
    s : ℕ
    s = size n

    k : ℕ
    k = drop 53 n 1

    b : ℕ
    b = (s + 967) / 2

    e : ℕ
    e = k + 1073 - (b + b)

    W : ℕ
    W = kept 53 n 1 * 2 ^ (e + 1)

    dropped : k ≡ s - 53
    dropped = let w : n / 1 ≡ n = omega arith in ap (λ (z : ℕ). size z - 53) w

    some : 0 < s
    some = size_above n 0 (omega arith)

    most-digits : s ≤ 2098
    most-digits = size-le n 2098 (subst (λ (z : ℕ). n < z) O_is held.1)

    few : b ≤ 1532
    few = let m = most-digits in omega arith

    places : e + 1 + (b + b) ≡ k + 1074
    places = let d = dropped in omega arith

    scaled : n * U ≡ W * (2 ^ b * 2 ^ b)
    scaled =
        ap (λ (z : ℕ). n * z) U_is
        ∙ ap (λ (z : ℕ). z * 2 ^ 1074) (sym held.0)
        ∙ mul_assoc (kept 53 n 1) (2 ^ k) (2 ^ 1074)
        ∙ ap (λ (z : ℕ). kept 53 n 1 * z) (sym (pow-add 2 k 1074) ∙ ap (λ (z : ℕ). 2 ^ z) (sym places) ∙ pow-add 2 (e + 1) (b + b))
        ∙ sym (mul_assoc (kept 53 n 1) (2 ^ (e + 1)) (2 ^ (b + b)))
        ∙ ap (λ (z : ℕ). W * z) (pow-add 2 b b)

    even : (y v w : ℕ) → w ≡ v * 2 → y * w % 2 ≡ 0
    even y v w h = ap (λ (z : ℕ). z % 2) (ap (λ (z : ℕ). y * z) h ∙ sym (mul_assoc y v 2)) ∙ mul-mod_left (y * v) 2

    in_all : n * 2 ^ 1074 ≡ W * 2 ^ (b + b)
    in_all = ap (λ (z : ℕ). n * z) (sym U_is) ∙ scaled ∙ ap (λ (z : ℕ). W * z) (sym (pow-add 2 b b))

    least : 2 ^ 106 ≤ W
    least =
        let h : 106 + (b + b) ≤ s - 1 + 1074 = let m = some in omega arith in
        let l : s - 1 < size n = let m = some in omega arith in
        le_of_mul-le-mul_right {k = 2 ^ (b + b)}
        (le_trans (le_of_eq (sym (pow-add 2 106 (b + b))))
        (le_trans (pow_mono h)
        (le_trans (le_of_eq (pow-add 2 (s - 1) 1074))
        (le_trans (mul-le-mul_right (2 ^ 1074) (size_reaches n (s - 1) l)) (le_of_eq in_all)))))
        (pow_pos (b + b))

    most : W < 2 ^ 108
    most =
        let h : s + 1074 ≤ 108 + (b + b) = omega arith in
        lt_of_mul-lt-mul_right (2 ^ (b + b))
        (lt_of_le_of_lt (le_of_eq (sym in_all))
        (lt_of_lt_of_le (mul-lt-mul_of_pos_right (size-lt n) (pow_pos 1074))
        (le_trans (le_of_eq (sym (pow-add 2 s 1074))) (le_trans (pow_mono h) (le_of_eq (pow-add 2 108 (b + b)))))))

    root : Root (isqrt 54 W) W
    root = isqrt-root 54 W most

-- the root in units: above 0, and no infinity
abbrev pub root_units : {n : ℕ} → Leading n → ℕ
root_units v = (v.Q + 1) / 2 * 2 ^ (v.b + 1)

pub some_units : {n : ℕ} (v : Leading n) → 0 < root_units v
some_units v = mul-pos (let a = v.low in let h : 0 < (v.Q + 1) / 2 = omega arith in h) (pow_pos (v.b + 1))

pub below_infinity : {n : ℕ} (v : Leading n) → root_units v < O
below_infinity v =
    let a = v.high in
    let q : (v.Q + 1) / 2 ≤ 2 ^ 53 = omega arith in
    let c = v.few in
    let t : v.b + 1 ≤ 1533 = omega arith in
    subst (λ (z : ℕ). root_units v < z) (sym O_is)
    (lt_of_le_of_lt (mul-le-mul q (pow_mono t)) (lit< {m = 2 ^ 53 * 2 ^ 1533} {n = 2 ^ 2098} tt))
