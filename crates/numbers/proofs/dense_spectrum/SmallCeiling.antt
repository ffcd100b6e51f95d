-- The least whole number from x up, without a cast: what `small_ceiling` computes is it (`near_of`).
-- From 2 ^ 52 on doubles are the whole numbers, so that the sum of x and 2 ^ 52 - 1/2 is rounded to one. Less 2 ^ 52 that is an n with
-- n ≤ x ≤ n + 1, and it is found in the last digits of the sum's pattern.
use Rattle.std.specs.Float.{inf, fin, Format, binary64}
use Rattle.std.specs.Float.Ieee.{size, of_int, to_bits, is_nan, add, sub, lt, fits}
use Rattle.std.proofs.Common.{◌≡◌, ℕ, ◌+◌, ◌-◌, ◌*◌, ◌/◌, ◌^◌, ◌<◌, ◌≤◌, true, false, not, T, pos, negsuc, sym, refl, ap, ◌∙◌, subst, inl, le_trans, le_of_eq, lt_of_lt_of_le, lt_of_le_of_lt, le_of_lt, mul-le-mul_right, le_antisymm, lt_of_mul-lt-mul_right, mul-lt-mul_of_pos_right, mul-pos, le_of_mul-le-mul_right, mul-div_cancel, arith, lit<, lit≤, Float}
use lib.Ieee.Digits.{size-le}
use lib.Ieee.Fits.{add-fits, sub-fits, of_int-fits}
use lib.Ieee.Order.{drop, kept}
use Rattle.floats.specs.Float.{f1}
use Rattle.floats.proofs.Rounding.{rnd, rnd_err, size_above}
use Rattle.floats.proofs.Rounding.Units.{U, O, U_is, U_pos, Is, is_of, mag, bits_of, unique}
use Rattle.floats.proofs.Rounding.NonNegative.{Ext, unit_is, int_is, unit_ext, fine_under, fine_pos, add_ext, sub-fine}
use Rattle.floats.proofs.Rounding.Sizes.{is_number}
use Rattle.numbers.specs.DenseSpectrum.{ceiling}
use Rattle.numbers.proofs.dense_spectrum.WholePart.{held_whole, top_O, lt_units, ceiling_is}

abbrev B : Format
B = binary64

half : ℕ
half = 2 ^ 1073

two_halves : U ≡ half + half
unfolding U half
two_halves = refl

pow_1126 : 2 ^ 1126 ≡ 2 ^ 52 * U
unfolding U
pow_1126 = refl

pow_1127 : 2 ^ 1127 ≡ 2 ^ 53 * U
unfolding U
pow_1127 = refl

-- 2 ^ 52, a half less, and 2 ^ 51
abbrev pub whole : Float
whole = fin false 1 (pos 52)

abbrev pub whole_less_half : Float
whole_less_half = fin false (2 ^ 53 - 1) (negsuc 0)

abbrev pub small_end : Float
small_end = fin false 1 (pos 51)

-- a number of 2 ^ 52 units of one or more, and below twice that, has 1127 digits
digits_1127 : (s : ℕ) → 2 ^ 52 * U ≤ s → s < 2 ^ 53 * U → size s ≡ 1127
digits_1127 s l h =
    le_antisymm (size-le s 1127 (lt_of_lt_of_le h (le_of_eq (sym pow_1127)))) (size_above s 1126 (le_trans (le_of_eq pow_1126) l))

whole_units : Is whole false (2 ^ 52 * U)
whole_units = (refl, omega arith)

-- 2 ^ 52 - 1/2 is 2 ^ 53 - 1 halves
less_half_units : Is whole_less_half false ((2 ^ 53 - 1) * half)
less_half_units = (refl, omega (arith, two_halves))

end_units : Is small_end false (2 ^ 51 * U)
end_units = (refl, omega arith)

-- a + 2 ^ 52 - 1/2 lies between 2 ^ 52 and 2 ^ 53, so it is rounded to a whole number k, and a is from k - 2 ^ 52 to one more
summed : (a k c w u : ℕ) → 2 * c + u ≡ 2 * w → (2 * (k * 1) ≤ 2 * (a + c) + 1 * u) × (2 * (a + c) ≤ 2 * (k * 1) + 1 * u) → (k ≤ a + w) × (a + w ≤ k + u)
summed a k c w u e n = let l = n.0 in let m = n.1 in (omega arith, omega arith)

twice : 2 * ((2 ^ 53 - 1) * half) + U ≡ 2 * (2 ^ 52 * U)
unfolding U half
twice = refl

-- the sum, and the whole number that it is, as doubles
abbrev pub near : Float → Float
near x = add B x whole_less_half

abbrev pub below : Float → Float
below x = sub B (near x) whole

module _ (x : Float) (a : ℕ) (i : Is x false a) (lo : U < a) (hi : a < 2 ^ 51 * U) where
  exact : ℕ
  exact = a + (2 ^ 53 - 1) * half

  k : ℕ
  k = kept 53 exact 1

  from : 2 ^ 52 * U ≤ exact
  unfolding exact
  from = omega (arith, two_halves)

  under : exact < 2 ^ 53 * U
  unfolding exact
  under = omega (arith, two_halves)

  one : exact / 1 ≡ exact
  one = omega arith

  dropped : drop 53 exact 1 ≡ 1074
  dropped = ap (λ (z : ℕ). size z - 53) one ∙ ap (λ (z : ℕ). z - 53) (digits_1127 exact from under)

  rounded : rnd 53 exact 1 ≡ k * U
  unfolding k
  rounded = ap (λ (z : ℕ). kept 53 exact 1 * 2 ^ z) dropped ∙ ap (λ (z : ℕ). kept 53 exact 1 * z) (sym U_is)

  around : (k * U ≤ a + 2 ^ 52 * U) × (a + 2 ^ 52 * U ≤ k * U + U)
  unfolding exact
  around =
      let e = rnd_err 53 exact 1 (lit< tt) in
      let d : 2 ^ drop 53 exact 1 ≡ U = ap (λ (z : ℕ). 2 ^ z) dropped ∙ sym U_is in
      summed a (k * U) ((2 ^ 53 - 1) * half) (2 ^ 52 * U) U twice (subst (λ (z : ℕ). (2 * (k * U * 1) ≤ 2 * exact + 1 * z) × (2 * exact ≤ 2 * (k * U * 1) + 1 * z)) d
      (subst (λ (z : ℕ). (2 * (z * 1) ≤ 2 * exact + 1 * 2 ^ drop 53 exact 1) × (2 * exact ≤ 2 * (z * 1) + 1 * 2 ^ drop 53 exact 1)) rounded e))

  -- the whole number from which x is at most one up
  n : ℕ
  n = k - 2 ^ 52

  k_low : 2 ^ 52 ≤ k
  k_low = le_of_mul-le-mul_right {k = U} (let h = around.1 in omega arith) U_pos

  k_high : k < 2 ^ 52 + 2 ^ 51
  k_high = lt_of_mul-lt-mul_right U (let h = around.0 in omega arith)

  units : n * U + 2 ^ 52 * U ≡ k * U
  unfolding n
  units = split k (2 ^ 52) U k_low
    where
      split : (k w u : ℕ) → w ≤ k → (k - w) * u + w * u ≡ k * u
      split k w u h = omega (arith, ap (λ (z : ℕ). z * u) (let e : k - w + w ≡ k = omega arith in e))

  n_low : n * U ≤ a
  n_low = let h = around.0 in let e = units in omega arith

  n_high : a ≤ n * U + U
  n_high = let h = around.1 in let e = units in omega arith

  n_pos : 0 < n
  n_pos = lt_of_mul-lt-mul_right U (let h = n_high in omega arith)

  n-few : n < 2 ^ 51
  n-few = lt_of_mul-lt-mul_right U (lt_of_le_of_lt n_low hi)

  a-O : a < O
  a-O = lt_of_lt_of_le hi (le_trans (mul-le-mul_right U (lit≤ tt)) (le_of_lt top_O))

  near-O : k * U < O
  near-O = lt_of_le_of_lt (mul-le-mul_right U (le_trans (le_of_lt k_high) (lit≤ tt))) top_O

  less_half_O : (2 ^ 53 - 1) * half < O
  less_half_O = lt_of_le_of_lt reach top_O
    where
      reach : (2 ^ 53 - 1) * half ≤ 2 ^ 53 * U
      reach = omega (arith, two_halves)

  near-is : Is (near x) false (k * U)
  unfolding exact
  near-is =
      let e : Ext (near x) (k * U) = subst (λ (z : ℕ). Ext (near x) z) rounded (add_ext x whole_less_half a ((2 ^ 53 - 1) * half) (inl (a-O, (false, i, refl))) (inl (less_half_O, (false, less_half_units, refl)))) in
      fine_pos (near x) (k * U) (fine_under (near x) (k * U) e near-O) (mul-pos (lt_of_lt_of_le (lit< tt) k_low) U_pos)

  near-bits : to_bits B (near x) ≡ 1075 * 2 ^ 52 + n
  unfolding n
  near-bits =
      bits_of (near x) false (k * U) near-is
      ∙ ap (λ (z : ℕ). 0 + (z - 53) * 2 ^ 52 + k * U / 2 ^ (z - 53)) (digits_1127 (k * U) (mul-le-mul_right U k_low) (mul-lt-mul_of_pos_right (lt_of_lt_of_le k_high (lit≤ tt)) U_pos))
      ∙ ap (λ (z : ℕ). 0 + 1074 * 2 ^ 52 + k * U / z) (sym U_is)
      ∙ ap (λ (z : ℕ). 0 + 1074 * 2 ^ 52 + z) (mul-div_cancel k U_pos)
      ∙ carry k k_low
    where
      carry : (k : ℕ) → 2 ^ 52 ≤ k → 0 + 1074 * 2 ^ 52 + k ≡ 1075 * 2 ^ 52 + (k - 2 ^ 52)
      carry k h = omega arith

  below-is : Is (below x) false (n * U)
  below-is =
      let r : rnd 53 (k * U - 2 ^ 52 * U) 1 ≡ n * U = ap (λ (z : ℕ). rnd 53 z 1) (let e = units in omega arith) ∙ held_whole n (lt_of_lt_of_le n-few (lit≤ tt)) in
      let e : Ext (below x) (n * U) = subst (λ (z : ℕ). Ext (below x) z) r (sub-fine (near x) whole (k * U) (2 ^ 52 * U) (false, near-is, refl) (false, whole_units, refl) (mul-le-mul_right U k_low)) in
      fine_pos (below x) (n * U) (fine_under (below x) (n * U) e (lt_of_le_of_lt n_low a-O)) (mul-pos n_pos U_pos)

  -- a whole number from a up, by less than one, is the ceiling
  is-ceiling : (c : ℕ) → a ≤ c * U → c * U < a + U → c ≡ ceiling x
  is-ceiling c l h =
      let d = ceiling_is x a (false, i, refl) (le_trans (le_of_lt hi) (mul-le-mul_right U (lit≤ tt))) in
      le_antisymm (least c (ceiling x) h d.0) (least (ceiling x) c d.1 l)
    where
      least : (c d : ℕ) → c * U < a + U → a ≤ d * U → c ≤ d
      least c d h l = let m = lt_of_mul-lt-mul_right U (let g : c * U < (d + 1) * U = omega arith in g) in omega arith

  -- the number that is returned, and its double
  from_below : T (lt (below x) x) → (n + 1 ≡ ceiling x) × (add B (below x) f1 ≡ of_int B (pos (n + 1)))
  from_below t =
      let l = (lt_units (below x) x (n * U) a below-is i).0 t in
      let few : n + 1 < 2 ^ 53 = let h = n-few in omega arith in
      let sum : rnd 53 (n * U + U) 1 ≡ (n + 1) * U = ap (λ (z : ℕ). rnd 53 z 1) (next n U) ∙ held_whole (n + 1) few in
      let e : Ext (add B (below x) f1) ((n + 1) * U) = subst (λ (z : ℕ). Ext (add B (below x) f1) z) sum (add_ext (below x) f1 (n * U) U (inl (lt_of_le_of_lt n_low a-O, (false, below-is, refl))) unit_ext) in
      let g = int_is (n + 1) (le_of_lt few) in
      let v = fine_pos (add B (below x) f1) ((n + 1) * U) (fine_under (add B (below x) f1) ((n + 1) * U) e (lt_of_le_of_lt (mul-le-mul_right U (le_of_lt few)) top_O)) (mul-pos (omega arith) U_pos) in (
        is-ceiling (n + 1) (le_trans n_high (le_of_eq (next n U))) (lt_of_le_of_lt (le_of_eq (sym (next n U))) (omega arith)),
        unique (add B (below x) f1) (of_int B (pos (n + 1))) false ((n + 1) * U) (add-fits B (below x) f1) (of_int-fits B (pos (n + 1))) v g,
      )
    where
      next : (n u : ℕ) → n * u + u ≡ (n + 1) * u
      next n u = omega arith

  at_whole : T (not (lt (below x) x)) → (n ≡ ceiling x) × (below x ≡ of_int B (pos n))
  at_whole t =
      let l = (lt_units (below x) x (n * U) a below-is i).1 t in (
        is-ceiling n l (lt_of_le_of_lt n_low (omega (arith, U_pos))),
        unique (below x) (of_int B (pos n)) false (n * U) (sub-fits B (near x) whole) (of_int-fits B (pos n)) below-is (int_is n (le_trans (le_of_lt n-few) (lit≤ tt))),
      )

-- a value above 1 and below 2 ^ 51, by units
small_units : (x : Float) → T (fits B x) → T (lt f1 x) → T (lt x small_end) → Is x false (mag x) × (U < mag x) × (mag x < 2 ^ 51 * U)
unfolding lt
small_units (inf true) f l h = absurd l
small_units (inf false) f l h = absurd h
small_units (fin true m e) f l h = absurd l
small_units (fin false m e) f l h =
    let x = fin false m e in
    let i = (is_of x tt f).0 in
    (i, (lt_units f1 x U (mag x) unit_is i).0 l, (lt_units x small_end (mag x) (2 ^ 51 * U) i end_units).0 h)
small_units lib.Ieee.nan f l h = elim l [ ]

-- what `small_ceiling` computes: the last digits of the sum's pattern are the ceiling, or one less
abbrev number : Float → ℕ
number x = to_bits B (near x) - 1075 * 2 ^ 52

pub record Near (x : Float) : Type 0 where
  pub not_nan : T (not (is_nan (near x)))
  pub reaches : 1075 * 2 ^ 52 ≤ to_bits B (near x)
  pub few : number x + 1 < 2 ^ 64
  pub from_below : T (lt (below x) x) → (number x + 1 ≡ ceiling x) × (add B (below x) f1 ≡ of_int B (pos (ceiling x)))
  pub at_whole : T (not (lt (below x) x)) → (number x ≡ ceiling x) × (below x ≡ of_int B (pos (ceiling x)))

pub near_of : (x : Float) → T (fits B x) → T (lt f1 x) × T (lt x small_end) → Near x
near_of x f h =
    let u = small_units x f h.0 h.1 in
    let a = mag x in
    let bits = near-bits x a u.0 u.1 u.2 in
    let e : number x ≡ n x a u.0 u.1 u.2 = omega arith in
    let l = n-few x a u.0 u.1 u.2 in
    record {
      not_nan = is_number (near x) false _ (near-is x a u.0 u.1 u.2);
      reaches = omega arith;
      few = omega arith;
      from_below = λ t. let r = from_below x a u.0 u.1 u.2 t in
          let c = ap (λ (z : ℕ). z + 1) e ∙ r.0 in (c, r.1 ∙ ap (λ (z : ℕ). of_int B (pos z)) r.0);
      at_whole = λ t. let r = at_whole x a u.0 u.1 u.2 t in (e ∙ r.0, r.1 ∙ ap (λ (z : ℕ). of_int B (pos z)) r.0);
    }
