-- The root by digits. Proved: `EachDigit` of specs/RootDigits.antt (`each_digit`), by one digit (`next`) and the bits that it takes
-- (`taken_up`); that root has no more binary digits than were made (`width`); and for the code: a digit as a number (`bit-digit`), the two bits of
-- m * 2 ^ 52 by their places (`two_high`, `two_low`), what a digit needs (`ready`) and gives (`turn`), and the nearest root at the end (`last_digit`).
use Rattle.std.proofs.Common.{◌≡◌, refl, sym, ap, ◌∙◌, subst, ℕ, zero, suc, ◌+◌, ◌-◌, ◌*◌, ◌/◌, ◌%◌, ◌^◌, ◌≤◌, ◌<◌, le_of_eq, lt_of_lt_of_le, mul-div_cancel, div-one, mul-one, add-zero, add-one, arith, Bool, true, false, not, cond, T, leb, ltb, leb→le, ltb→lt, nltb→le, lit<, pow-add, pow_pos, pow_mono}
use native.Mathlib.Nat.{mul-mod_left, mul-div-mul_right, div-div-eq-div-mul, div-eq_of_lt}
use lib.Dec.{nleb→lt}
use Rattle.std.specs.Int.{from_bool}
use Rattle.floats.specs.RootSteps.{Nearest}
use Rattle.floats.specs.RootDigits.{RootRem, RootAndRemainder, EachDigit, root_rem, digit, two_bits, taken, after}

-- ---- one digit
abbrev Next : ℕ → ℕ → ℕ → RootRem → Type 0
Next root rem two s = RootAndRemainder (4 * (root * root + rem) + two) s × (s.root ≤ 2 * root + 1)

next : (root rem two : ℕ) → rem ≤ 2 * root → two < 4 → Next root rem two (digit root rem two)
unfolding digit
next root rem two h k = go (leb t x) (leb→le t x) (nleb→lt t x)
  where
    x : ℕ
    x = 4 * rem + two

    t : ℕ
    t = 4 * root + 1

    go : (b : Bool) → (T b → t ≤ x) → (T (not b) → x < t) → Next root rem two (cond b (root_rem (2 * root + 1) (x - t)) (root_rem (2 * root) x))
    go true f g = let l = f tt in (record { same = omega arith; small = omega arith }, omega arith)
    go false f g = let l = g tt in (record { same = omega arith; small = omega arith }, omega arith)

-- ---- the bits of a number
four_up : (n : ℕ) → 4 ^ suc n ≡ 4 ^ n * 4
four_up n = ap (λ (z : ℕ). 4 ^ z) (sym (add-one n)) ∙ pow-add 4 n 1

pub four_two : (n : ℕ) → 4 ^ n ≡ 2 ^ (n + n)
four_two zero = refl
four_two (suc n) =
    four_up n
    ∙ ap (λ (z : ℕ). z * 4) (four_two n)
    ∙ sym (pow-add 2 (n + n) 2)
    ∙ ap (λ (z : ℕ). 2 ^ z) (let e : n + n + 2 ≡ suc n + suc n = omega arith in e)

-- two bits more
taken_up : (k N i : ℕ) → i < k → taken k N (suc i) ≡ 4 * taken k N i + two_bits k N i
unfolding taken two_bits
taken_up k N i h =
    let j = k - 1 - i in
    ap (λ (z : ℕ). N / 4 ^ z) (let e : k - suc i ≡ j = omega arith in e)
    ∙ split (N / 4 ^ j)
    ∙ ap (λ (z : ℕ). 4 * z + N / 4 ^ j % 4)
    (div-div-eq-div-mul N (4 ^ j) 4
    ∙ ap (λ (z : ℕ). N / z) (sym (four_up j))
    ∙ ap (λ (z : ℕ). N / 4 ^ z) (let e : suc j ≡ k - i = omega arith in e))
  where
    split : (y : ℕ) → y ≡ 4 * (y / 4) + y % 4
    split y = omega arith

two_small : (k N i : ℕ) → two_bits k N i < 4
unfolding two_bits
two_small k N i = below (N / 4 ^ (k - 1 - i))
  where
    below : (y : ℕ) → y % 4 < 4
    below y = omega arith

-- ---- after each digit
pub each_digit : EachDigit
unfolding after taken
each_digit k N zero h l =
    record { same = sym (div-eq_of_lt h) ∙ ap (λ (z : ℕ). N / 4 ^ z) (let e : k ≡ k - 0 = omega arith in e); small = omega arith }
each_digit k N (suc i) h l =
    let s = after k N i in
    let v = each_digit k N i h (omega arith) in
    let n = (next s.root s.rem (two_bits k N i) v.small (two_small k N i)).0 in
    record {
      same = n.same ∙ ap (λ (z : ℕ). 4 * z + two_bits k N i) v.same ∙ sym (taken_up k N i l);
      small = n.small;
    }

width : (k N i : ℕ) → N < 4 ^ k → i ≤ k → (after k N i).root < 2 ^ i
unfolding after
width k N zero h l = lit< tt
width k N (suc i) h l =
    let s = after k N i in
    let v = each_digit k N i h (omega arith) in
    let n = (next s.root s.rem (two_bits k N i) v.small (two_small k N i)).1 in
    lt_of_lt_of_le (twice s.root (2 ^ i) (after k N (suc i)).root (width k N i h (omega arith)) n)
    (le_of_eq (sym (pow-add 2 i 1) ∙ ap (λ (z : ℕ). 2 ^ z) (add-one i)))
  where
    twice : (r p q : ℕ) → r < p → q ≤ 2 * r + 1 → q < p * 2
    twice r p q a b = omega arith

-- ---- `digit`: the digit as a number
pub bit-digit : (root rem two c : ℕ) → c ≡ from_bool (leb (4 * root + 1) (4 * rem + two))
    → root_rem (2 * root + c) (4 * rem + two - (4 * root + 1) * c) ≡ digit root rem two
unfolding digit
bit-digit root rem two c = go (leb t x)
  where
    x : ℕ
    x = 4 * rem + two

    t : ℕ
    t = 4 * root + 1

    go : (b : Bool) → c ≡ from_bool b → root_rem (2 * root + c) (x - t * c) ≡ cond b (root_rem (2 * root + 1) (x - t)) (root_rem (2 * root) x)
    go true e = rw e (ap (λ (z : ℕ). root_rem (2 * root + 1) (x - z)) (mul-one t))
    go false e = rw e (ap (λ (z : ℕ). root_rem z (x - t * 0)) (add-zero (2 * root)) ∙ ap (root_rem (2 * root)) (let k : x - t * 0 ≡ x = omega arith in k))

-- ---- `two_bits`: the operand is m * 2 ^ 52
-- the bits of m
pub two_high : (m i : ℕ) → i < 27 → m / 2 ^ (52 - 2 * i) % 4 ≡ two_bits 53 (m * 2 ^ 52) i
unfolding two_bits
two_high m i h =
    let j = 52 - 2 * i in
    let e : 4 ^ (52 - i) ≡ 2 ^ j * 2 ^ 52 =
    four_two (52 - i) ∙ ap (λ (z : ℕ). 2 ^ z) (let k : 52 - i + (52 - i) ≡ j + 52 = omega arith in k) ∙ pow-add 2 j 52 in
    ap (λ (z : ℕ). z % 4) (sym (mul-div-mul_right m (2 ^ j) (pow_pos 52)) ∙ ap (λ (z : ℕ). m * 2 ^ 52 / z) (sym e))

-- the zeros behind them
pub two_low : (m i : ℕ) → 27 ≤ i → i < 53 → 0 ≡ two_bits 53 (m * 2 ^ 52) i
unfolding two_bits
two_low m i h l =
    let d = 52 - i in
    let a = i - 27 + (i - 27) in
    let e : 2 ^ 52 ≡ 2 ^ a * 4 * 4 ^ d =
    ap (λ (z : ℕ). 2 ^ z) (let k : 52 ≡ a + 2 + (d + d) = omega arith in k)
    ∙ pow-add 2 (a + 2) (d + d)
    ∙ ap (λ (z : ℕ). z * 2 ^ (d + d)) (pow-add 2 a 2)
    ∙ ap (λ (z : ℕ). 2 ^ a * 4 * z) (sym (four_two d)) in
    let q : m * 2 ^ 52 / 4 ^ d ≡ m * 2 ^ a * 4 =
    ap (λ (z : ℕ). z / 4 ^ d) (ap (λ (z : ℕ). m * z) e ∙ group m (2 ^ a) (4 ^ d))
    ∙ mul-div_cancel (m * 2 ^ a * 4) (subst (λ (z : ℕ). 0 < z) (sym (four_two d)) (pow_pos (d + d))) in
    sym (ap (λ (z : ℕ). z % 4) q ∙ mul-mod_left (m * 2 ^ a) 4)
  where
    group : (m p q : ℕ) → m * (p * 4 * q) ≡ m * p * 4 * q
    group m p q = omega arith

-- ---- `digits`
under : (m : ℕ) → m < 2 ^ 54 → m * 2 ^ 52 < 4 ^ 53
under m h = omega arith

-- s is root and remainder after i digits, and w the next two bits
module _ (m i w : ℕ) (s : RootRem) (a : s ≡ after 53 (m * 2 ^ 52) i) (b : w ≡ two_bits 53 (m * 2 ^ 52) i) where
  pub ready : m < 2 ^ 54 → i < 53 → (s.root < 2 ^ 56) × (s.rem ≤ 2 * s.root) × (w < 4)
  ready h l =
      let N = m * 2 ^ 52 in
      rw (a, b) (
        lt_of_lt_of_le (width 53 N i (under m h) (omega arith)) (pow_mono {i = i} {j = 56} (omega arith)),
        (each_digit 53 N i (under m h) (omega arith)).small,
        two_small 53 N i,
      )

  pub turn : (r : RootRem) → r ≡ digit s.root s.rem w → r ≡ after 53 (m * 2 ^ 52) (i + 1)
  unfolding after
  turn r e =
      let N = m * 2 ^ 52 in
      e
      ∙ ap (λ (z : RootRem). digit z.root z.rem w) a
      ∙ ap (digit (after 53 N i).root (after 53 N i).rem) b
      ∙ ap (after 53 N) (sym (add-one i))

-- After the last digit all of m * 2 ^ 52 is taken: the nearest to its root is the whole root, and one more where the remainder is above it.
pub last_digit : (m c : ℕ) (s : RootRem) → 0 < m → m < 2 ^ 54 → s ≡ after 53 (m * 2 ^ 52) 53 → c ≡ from_bool (ltb s.root s.rem)
    → (s.root < 2 ^ 53) × Nearest (s.root + c) (m * 2 ^ 52)
unfolding taken
last_digit m c s p h a e =
    let N = m * 2 ^ 52 in
    let v : RootAndRemainder (N / 1) s = rw a (each_digit 53 N 53 (under m h) (omega arith)) in (
      rw a (width 53 N 53 (under m h) (omega arith)),
      go s.root s.rem N (omega arith) (v.same ∙ div-one N) v.small (ltb s.root s.rem) (ltb→lt s.root s.rem)
          (nltb→le s.root s.rem) e,
    )
  where
    go : (r s n : ℕ) → 0 < n → r * r + s ≡ n → s ≤ 2 * r → (b : Bool) → (T b → r < s) → (T (not b) → s ≤ r) → c ≡ from_bool b
        → Nearest (r + c) n
    go r s n q e k true f g d = let l = f tt in rw d (omega arith, omega arith)
    go zero s n q e k false f g d = absurd (omega arith)
    go (suc r) s n q e k false f g d = let l = g tt in rw d (omega arith, omega arith)
