-- The operand of a value above 0, m * 4 ^ h, is the value's units times 2 ^ 1074.
-- Proved: how many digits a subnormal lacks (`lacking_of`); d * 2 ^ e as m * 4 ^ h, by the parity of e (`placed_at`);
-- the units of a value from its bit pattern (`opened`), so that what `of` returns is its operand
-- (`subnormal_scaled`, `normal_scaled`); and the operand's root is the value's (`root_scaled`).
use Rattle.std.proofs.Common.{◌≡◌, refl, sym, ap, ◌∙◌, subst, ◌⊎◌, inl, inr, ℕ, zero, suc, ◌+◌, ◌-◌, ◌*◌, ◌/◌, ◌%◌, ◌^◌, ◌≤◌, ◌<◌, le_trans, le_of_eq, lt_of_lt_of_le, lt_irrefl, mul_assoc, mul-le-mul_right, mul-one, mul-div_cancel, mul-lt-mul_of_pos_right, eq-zero-or-pos, le-div_iff_mul-le, arith, false, not, T, lit≤, pow-add, pow_pos, pow_mono, Float}
use lib.Count.{count_leading_zeros, leading_top}
use lib.Ieee.{fin, Format, binary64, to_bits, is_nan, fits, size}
use lib.Ieee.Digits.{size-le, size_reaches}
use lib.Ieee.Order.{drop, kept}
use lib.Ieee.Positive.{positive}
use lib.Ieee.Fits.{kept-lt}
use Rattle.floats.specs.SquareRoot.{Size, root_of_units, square_root}
use Rattle.floats.specs.RootSteps.{Placed, Scaled, RootOf}
use Rattle.floats.proofs.Rounding.{below_or_from}
use Rattle.floats.proofs.Rounding.Units.{U, O_is, Is, mag, is_of, is_same, Held, pattern, bits_of, units_pos}
use Rattle.floats.proofs.square_root.RootDigits.{four_two}
use Rattle.floats.proofs.square_root.RootBits.{RootFrom, root_by_units, size_of}

abbrev B : Format
B = binary64

-- ---- `lacking`: t has its first digit at j, so it lacks 52 - j of 53
pub lacking_of : (t : ℕ) → 0 < t → t < 2 ^ 52
    → let z = count_leading_zeros 64 t - 11 in (11 ≤ count_leading_zeros 64 t) × (z ≤ 52) × (2 ^ 52 ≤ t * 2 ^ z) × (t * 2 ^ z < 2 ^ 53)
lacking_of t some few =
    let p = leading_top 64 t some (lt_of_lt_of_le few (lit≤ tt)) in
    let j = p.0 in
    let z = count_leading_zeros 64 t - 11 in
    let e = p.1 in
    let jl : j < 52 =
    elim (below_or_from j 52) [ inl g ↦ g | inr g ↦ absurd (lt_irrefl t (lt_of_lt_of_le few (le_trans (pow_mono {i = 52} {j = j} g) p.2))) ] in
    let up : 2 ^ 52 ≡ 2 ^ j * 2 ^ z = ap (λ (y : ℕ). 2 ^ y) (let k : 52 ≡ j + z = omega arith in k) ∙ pow-add 2 j z in
    let top : 2 ^ 53 ≡ 2 ^ suc j * 2 ^ z = ap (λ (y : ℕ). 2 ^ y) (let k : 53 ≡ suc j + z = omega arith in k) ∙ pow-add 2 (suc j) z in (
      omega arith,
      omega arith,
      le_trans (le_of_eq up) (mul-le-mul_right (2 ^ z) p.2),
      lt_of_lt_of_le (mul-lt-mul_of_pos_right p.3 (pow_pos z)) (le_of_eq (sym top)),
    )

-- ---- `placed`: an odd exponent gives d a digit
pub placed_at : (d e : ℕ) → Placed d e (d * (e % 2 + 1)) (e / 2)
placed_at d e =
    let p = e % 2 in
    let h = e / 2 in
    ap (λ (z : ℕ). d * 2 ^ z) (let c : e ≡ p + (h + h) = omega arith in c)
    ∙ ap (λ (z : ℕ). d * z) (pow-add 2 p (h + h) ∙ ap (λ (z : ℕ). z * 2 ^ (h + h)) (few p (let c : p < 2 = omega arith in c)))
    ∙ sym (mul_assoc d (p + 1) (2 ^ (h + h)))
    ∙ ap (λ (z : ℕ). d * (p + 1) * z) (sym (four_two h))
  where
    few : (p : ℕ) → p < 2 → 2 ^ p ≡ p + 1
    few zero k = refl
    few (suc zero) k = refl
    few (suc (suc p)) k = absurd (let c : ⊥ = omega arith in c)

-- ---- `of`: a number of units from the bit pattern
pub record Unpacked (b n : ℕ) : Type 0 where
  pub some : 0 < n
  pub under : n < 2 ^ 2098
  pub field : b / 2 ^ 52 ≤ 2046
  pub low : b / 2 ^ 52 ≡ 0 → n ≡ b % 2 ^ 52
  pub high : (b / 2 ^ 52 ≡ 0 → ⊥) → n ≡ (b % 2 ^ 52 + 2 ^ 52) * 2 ^ (b / 2 ^ 52 - 1)

unpack_at : (k y n b : ℕ) → b ≡ 0 + k * 2 ^ 52 + y → y * 2 ^ k ≡ n → y < 2 ^ 53 → (0 < k → 2 ^ 52 ≤ y) → k ≤ 2045 → 0 < n → n < 2 ^ 2098
    → Unpacked b n
unpack_at k y n b e s h g kk p o = record { some = p; under = o; field = omega arith; low = lo (eq-zero-or-pos k); high = hi }
  where
    at_zero : (y k n : ℕ) → k ≡ 0 → y * 2 ^ k ≡ n → y ≡ n
    at_zero y k n z q = sym (mul-one y) ∙ ap (λ (x : ℕ). y * 2 ^ x) (sym z) ∙ q

    lo : (k ≡ 0) ⊎ (0 < k) → b / 2 ^ 52 ≡ 0 → n ≡ b % 2 ^ 52
    lo (inl z) q = sym (at_zero y k n z s) ∙ (let r : y ≡ b % 2 ^ 52 = omega arith in r)
    lo (inr z) q = absurd (let l = g z in omega arith)

    big : (b / 2 ^ 52 ≡ 0 → ⊥) → 2 ^ 52 ≤ y
    big f =
        elim (eq-zero-or-pos k) [
          | inl z ↦ elim (below_or_from y (2 ^ 52)) [ inl l ↦ absurd (f (let m : b / 2 ^ 52 ≡ 0 = omega arith in m)) | inr l ↦ l ]
          | inr z ↦ g z
        ]

    hi : (b / 2 ^ 52 ≡ 0 → ⊥) → n ≡ (b % 2 ^ 52 + 2 ^ 52) * 2 ^ (b / 2 ^ 52 - 1)
    hi f =
        let l = big f in
        let a : b / 2 ^ 52 - 1 ≡ k = omega arith in
        let c : b % 2 ^ 52 + 2 ^ 52 ≡ y = omega arith in
        sym s ∙ ap (λ (x : ℕ). x * 2 ^ k) (sym c) ∙ ap (λ (x : ℕ). (b % 2 ^ 52 + 2 ^ 52) * 2 ^ x) (sym a)

unpack : (n : ℕ) → Held n → 0 < n → Unpacked (pattern false n) n
unpack n held p =
    let k = size n - 53 in
    let y = n / 2 ^ k in
    let d : drop 53 n 1 ≡ k = ap (λ (x : ℕ). size x - 53) (omega arith) in
    let e : kept 53 n 1 * 2 ^ k ≡ n = ap (λ (x : ℕ). kept 53 n 1 * 2 ^ x) (sym d) ∙ held.0 in
    let q : y ≡ kept 53 n 1 = ap (λ (x : ℕ). x / 2 ^ k) (sym e) ∙ mul-div_cancel (kept 53 n 1) (pow_pos k) in
    unpack_at k y n (pattern false n) refl (ap (λ (x : ℕ). x * 2 ^ k) q ∙ e) (kept-lt 53 n)
    (λ (K : 0 < k). (le-div_iff_mul-le (pow_pos k)).1
    (le_trans (le_of_eq (sym (pow-add 2 52 k))) (size_reaches n (52 + k) (omega arith))))
    (omega (arith, size-le n 2098 (subst (λ (z : ℕ). n < z) O_is held.1))) p (subst (λ (z : ℕ). n < z) O_is held.1)

-- what `of` needs of x
pub opened : (x : Float) → T (positive x) → T (fits B x)
    → Unpacked (to_bits B x) (mag x) × (square_root B x ≡ root_of_units B (mag x)) × T (not (is_nan x))
unfolding is_nan
opened (fin false (suc m) e) p f =
    let x = fin false (suc m) e in
    let i = is_of x tt f in (
      subst (λ (b : ℕ). Unpacked b (mag x)) (sym (bits_of x false (mag x) i.0))
          (unpack (mag x) i.1 (units_pos m (mag x) e i.0.1)),
      root_by_units m e,
      tt,
    )
opened lib.Ieee.nan p f = elim p [ ]
opened (lib.Ieee.inf _) p f = elim p [ ]
opened (fin false zero e) p f = elim p [ ]
opened (fin mathlib.Core.Bool.true _ e) p f = elim p [ ]

units_of : (x : Float) → T (positive x) → T (fits B x) → Is x false (mag x)
units_of (fin false (suc m) e) p f = (is_of (fin false (suc m) e) tt f).0
units_of lib.Ieee.nan p f = elim p [ ]
units_of (lib.Ieee.inf _) p f = elim p [ ]
units_of (fin false zero e) p f = elim p [ ]
units_of (fin mathlib.Core.Bool.true _ e) p f = elim p [ ]

-- an operand of the units is one of x
scaled_from : (x : Float) (d e m h : ℕ) → T (positive x) → T (fits B x) → mag x * 2 ^ 1074 ≡ d * 2 ^ e → Placed d e m h → Scaled x m h
scaled_from x d e m h p f q w =
    record { holds = f; above = p; n = mag x; size = size_of x false (mag x) (units_of x p f); placed = q ∙ w }

-- a subnormal's, its digits z places up
pub subnormal_scaled : (x : Float) (z m h : ℕ) → T (positive x) → T (fits B x) → to_bits B x / 2 ^ 52 ≡ 0 → z ≤ 52
    → Placed (to_bits B x % 2 ^ 52 * 2 ^ z) (1074 - z) m h → Scaled x m h
subnormal_scaled x z m h p f q few w =
    let t = to_bits B x % 2 ^ 52 in
    scaled_from x (t * 2 ^ z) (1074 - z) m h p f
    (ap (λ (y : ℕ). y * 2 ^ 1074) ((opened x p f).0.low q)
    ∙ ap (λ (y : ℕ). t * 2 ^ y) (let k : 1074 ≡ z + (1074 - z) = omega arith in k)
    ∙ ap (λ (y : ℕ). t * y) (pow-add 2 z (1074 - z))
    ∙ sym (mul_assoc t (2 ^ z) (2 ^ (1074 - z)))) w

-- a normal value's
pub normal_scaled : (x : Float) (m h : ℕ) → T (positive x) → T (fits B x) → (to_bits B x / 2 ^ 52 ≡ 0 → ⊥)
    → Placed (to_bits B x % 2 ^ 52 + 2 ^ 52) (to_bits B x / 2 ^ 52 + 1073) m h → Scaled x m h
normal_scaled x m h p f q w =
    let b = to_bits B x in
    let d = b % 2 ^ 52 + 2 ^ 52 in
    let k = b / 2 ^ 52 - 1 in
    scaled_from x d (b / 2 ^ 52 + 1073) m h p f
    (ap (λ (y : ℕ). y * 2 ^ 1074) ((opened x p f).0.high q)
    ∙ mul_assoc d (2 ^ k) (2 ^ 1074)
    ∙ ap (λ (y : ℕ). d * y) (sym (pow-add 2 k 1074) ∙ ap (λ (y : ℕ). 2 ^ y) (up_one (b / 2 ^ 52) (eq-zero-or-pos (b / 2 ^ 52)) q))) w
  where
    up_one : (f : ℕ) → (f ≡ 0) ⊎ (0 < f) → (f ≡ 0 → ⊥) → f - 1 + 1074 ≡ f + 1073
    up_one f (inl h) q = absurd (q h)
    up_one f (inr h) q = omega arith

-- ---- the root of the operand is the value's
is_size : (x : Float) (n : ℕ) → T (positive x) → Size x n → Is x false n
unfolding U
is_size (fin false m e) n p h = (refl, h)
is_size lib.Ieee.nan n p h = elim p [ ]
is_size (lib.Ieee.inf _) n p h = elim p [ ]
is_size (fin mathlib.Core.Bool.true m e) n p h = elim p [ ]

pub root_scaled : (m h : ℕ) (r : Float) → RootFrom m h r → RootOf m h r
root_scaled m h r g x s =
    let same : s.n ≡ mag x =
    (is_same x false false s.n (mag x) (is_size x s.n s.above s.size) (units_of x s.above s.holds)).1 in
    let o = opened x s.above s.holds in
    g (mag x) o.0.under (ap (λ (z : ℕ). z * 2 ^ 1074) (sym same) ∙ s.placed) ∙ sym o.1
