-- The lookup of a spectrum at a wavelength from 360 to 830, on a grid of n equal whole steps that satisfies `Grid`: 94 steps of 5 do (`grid_5`), and 470 of 1 (`grid_1`).
-- Proved: the entries that `sample_one_at` reads exist, between grid points there is one on either side, and the weight of the upper one is from 0 to 1 (`place_of`);
-- where all entries are from lo to hi, the value lies in that range up to one part in 2 ^ 50 (`sample_nearly`); with entries from 0.01 to 100 it is from 1 / 128 to 128 (`sample_index`, for any such grid `sample_index_at`), which is inside the range of an index (`read_index`). A table's length leads to its grid (`table_of`, `table_place`).
-- A wavelength from 256 on is a multiple of 2 ^ -44, so one that is above a grid point is that far above, and the quotient by the step does not round down onto the point's index.
use Rattle.std.specs.Float.{fin, Format, binary64}
use Rattle.std.specs.Float.Ieee.{up, down, size, of_int, le, lt, eq, fits}
use Rattle.std.proofs.Common.{◌≡◌, ℕ, zero, suc, ◌+◌, ◌-◌, ◌*◌, ◌/◌, ◌^◌, ◌<◌, ◌≤◌, Bool, true, false, cond, ◌||◌, T, eqb, List, length, pos, sym, refl, ap, ◌∙◌, subst, inl, inr, zero-le, le_trans, le_of_eq, le_refl, lt_of_lt_of_le, lt_of_le_of_lt, le_of_lt, lt_irrefl, mul-le-mul_right, mul_assoc, mul_comm, div-lt_iff_lt-mul, le_antisymm, lt_of_mul-lt-mul_right, mul-le-mul_left, mul-lt-mul_of_pos_right, mul-pos, one-mul, mul-zero, zero-mul, not-le_of_lt, le_of_mul-le-mul_right, arith, lit<, lit≤, eqb→eq, pow_pos, pow_mono, pow-add, Float}
use mathlib.Core.Bool.{beq}
use mir.Facts.{or_yes}
use lib.Ieee.Digits.{size-le, back}
use lib.Ieee.Fits.{and_i, and_l, and_r, eq→eqb, add-fits, div-fits}
use lib.Ieee.Order.{drop, kept}
use lib.Ieee.Scale.{finite}
use Rattle.floats.proofs.Rounding.{rnd, Near, rnd_fix, rnd-mono, rnd_same, rnd_err, rnd_whole, below_or_from, size_above}
use Rattle.floats.proofs.Rounding.Units.{U, O, U_is, U_pos, U_O, Is, is_of, mag, either, unique, le-finite}
use Rattle.floats.proofs.Rounding.NonNegative.{Fine, Ext, int_is, unit_ext, U_held, share_of, fine_under, inside, mul_ext, div_ext, sub-fine, add_ext, fine_pos, unit_fine}
use Rattle.floats.proofs.Rounding.Shares.{rnd_mono1}
use Rattle.floats.proofs.Rounding.Error.{Fin, P, N, M, M/2, le_parts, mul-rnd, unscale, sum_mag, one_side}
use Rattle.numbers.proofs.vec3.UnitVector.{sum_err}
use Rattle.floats.proofs.Rounding.Sizes.{fine_N, pos_of, zero_N}
use Rattle.numbers.proofs.dense_spectrum.Every.{entry-every}
use Rattle.numbers.proofs.dense_spectrum.WholePart.{held_whole, ceiling_is}
use Rattle.numbers.proofs.dense_spectrum.Spacing.{dense_step_lem, fine_step_lem}
use Rattle.floats.specs.Float.{◌⊕◌, ◌⊖◌, ◌⊗◌, ◌⊘◌, f0, f1, decimal, within}
use Rattle.numbers.specs.DenseSpectrum.{lambda_min, lambda_max, dense_samples, fine_samples, step_of, terminated, entry, interpolate, upper_point, upper_lambda, upper_weight, sample_one_at, sample_one, all_within, is_table, in_table, is_wavelength}

abbrev B : Format
B = binary64

-- ---- the grid: n steps of s nanometres from 360 to 830, with an index below 2 ^ bits
pub record Grid (s n : ℕ) : Type 0 where
  pub whole : s * n ≡ 470
  pub bits : ℕ
  pub few : n < 2 ^ bits
  pub fine : s * 2 ^ bits < 1024

pub grid_5 : Grid 5 94
grid_5 = record { whole = refl; bits = 7; few = lit< tt; fine = lit< tt }

pub grid_1 : Grid 1 470
grid_1 = record { whole = refl; bits = 9; few = lit< tt; fine = lit< tt }

not_470 : (x : ℕ) → x ≡ 470 → x ≡ 0 → ⊥
not_470 x a b = omega arith

step_pos : (s n : ℕ) → Grid s n → 0 < s
step_pos zero n g = absurd (not_470 (0 * n) g.whole (zero-mul n))
step_pos (suc s) n g = omega arith

span : (s n k : ℕ) → Grid s n → k ≤ n → s * k ≤ 470
span s n k g h = le_trans (mul-le-mul_left s h) (le_of_eq g.whole)

-- ---- the spacing of wavelengths: one from 256 on is a multiple of G, 2 ^ -44
G : ℕ
G = 2 ^ 1030

G_U : U ≡ 17592186044416 * G
unfolding G U
G_U = refl

G_lt : G < U
unfolding G U
G_lt = lit< tt

pow_256 : 256 * U ≡ 2 ^ 1082
unfolding U
pow_256 = refl

multiple : (L : ℕ) → rnd 53 L 1 ≡ L → 256 * U ≤ L → (t : ℕ) × (L ≡ t * G)
unfolding G
multiple L h g =
    let k = drop 53 L 1 in
    let q = kept 53 L 1 in
    let z : 1082 < size (L / 1) = subst (λ (n : ℕ). 1082 < size n) (sym (omega arith)) (size_above L 1082 (le_trans (le_of_eq (sym pow_256)) g)) in
    let d : 1030 ≤ k = omega arith in
    let split : 2 ^ k ≡ 2 ^ (k - 1030) * 2 ^ 1030 = ap (λ (n : ℕ). 2 ^ n) (sym (back k 1030 d)) ∙ pow-add 2 (k - 1030) 1030 in
    (q * 2 ^ (k - 1030), sym h ∙ ap (λ (n : ℕ). q * n) split ∙ sym (mul_assoc q (2 ^ (k - 1030)) (2 ^ 1030)))

-- above a whole number it is at least G above
next : (L N : ℕ) → rnd 53 L 1 ≡ L → 256 * U ≤ L → N * U < L → N * U + G ≤ L
next L N h g l =
    let w = multiple L h g in
    subst (λ (z : ℕ). N * U + G ≤ z) (sym w.1) (go w.0 (subst (λ (z : ℕ). N * U < z) w.1 l))
  where
    go : (t : ℕ) → N * U < t * G → N * U + G ≤ t * G
    go t l =
        let a = N * 17592186044416 in
        let e : N * U ≡ a * G = ap (λ (z : ℕ). N * z) G_U ∙ sym (mul_assoc N 17592186044416 G) in
        let b : a < t = lt_of_mul-lt-mul_right G (subst (λ (z : ℕ). z < t * G) e l) in
        omega (arith, mul-le-mul_right G b)

-- one step of G above a whole number is held
held_G : (q : ℕ) → q < 9007199254740992 → rnd 53 (q * G) 1 ≡ q * G
unfolding G
held_G q h = rnd_fix 53 q 1030 h

held_next : (N : ℕ) → N < 512 → rnd 53 (N * U + G) 1 ≡ N * U + G
held_next N h = subst (λ (z : ℕ). rnd 53 z 1 ≡ z) (tie N) (held_G (N * 17592186044416 + 1) (omega arith))
  where
    flat : (n g : ℕ) → (n * 17592186044416 + 1) * g ≡ n * (17592186044416 * g) + g
    flat n g = omega arith

    tie : (N : ℕ) → (N * 17592186044416 + 1) * G ≡ N * U + G
    tie N = flat N G ∙ ap (λ (z : ℕ). N * z + G) (sym G_U)

-- ---- the quotient by s of what lies G above s k is above k
pow_1021 : 1024 * 2 ^ 1021 ≡ 2 * G
unfolding G
pow_1021 = refl

above : (s n k : ℕ) → Grid s n → k ≤ n → k * U < rnd 53 ((s * k * U + G) * U) (s * U)
above s n k g h =
    let b = g.bits in
    let s0 = step_pos s n g in
    let a = (s * k * U + G) * U in
    let c = s * U in
    let c0 : 0 < c = mul-pos s0 U_pos in
    let e = 2 ^ drop 53 a c in
    let below : a < 2 ^ (1074 + b) * c = subst (λ (w : ℕ). a < w * c) (top b) (small s k (2 ^ b) U G s0 (lt_of_le_of_lt h g.few) G_lt U_pos) in
    let z : size (a / c) ≤ 1074 + b = size-le (a / c) (1074 + b) ((div-lt_iff_lt-mul c0).1 below) in
    let e-le : e ≤ 2 ^ (1021 + b) = pow_mono (omega arith) in
    let se : s * e < 2 * G = lt_of_le_of_lt (le_trans (mul-le-mul_left s e-le) (le_of_eq (split s b))) (lt_of_lt_of_le (mul-lt-mul_of_pos_right g.fine (pow_pos 1021)) (le_of_eq pow_1021)) in
    elim (below_or_from (k * U) (rnd 53 a c)) [
      | inl l ↦ l
      | inr r ↦ absurd (no_way s (rnd 53 a c) k U G e (rnd_err 53 a c c0).1 r se U_pos)
    ]
  where
    top : (b : ℕ) → 2 ^ b * U ≡ 2 ^ (1074 + b)
    top b = ap (λ (z : ℕ). 2 ^ b * z) U_is ∙ mul_comm (2 ^ b) (2 ^ 1074) ∙ sym (pow-add 2 1074 b)

    split : (s b : ℕ) → s * 2 ^ (1021 + b) ≡ s * 2 ^ b * 2 ^ 1021
    split s b = ap (λ (z : ℕ). s * z) (pow-add 2 1021 b ∙ mul_comm (2 ^ 1021) (2 ^ b)) ∙ sym (mul_assoc s (2 ^ b) (2 ^ 1021))

    small : (s k t u g : ℕ) → 0 < s → k < t → g < u → 0 < u → (s * k * u + g) * u < t * u * (s * u)
    small s k t u g s0 h l p =
        let m : s * suc k * u ≤ s * t * u = mul-le-mul_right u (mul-le-mul_left s h) in
        let v : 1 * u ≤ s * u = mul-le-mul_right u s0 in
        let x : (s * k * u + g) * u < s * t * u * u = mul-lt-mul_of_pos_right (omega arith) p in
        omega arith

    no_way : (s r k u g e : ℕ) → 2 * ((s * k * u + g) * u) ≤ 2 * (r * (s * u)) + s * u * e → r ≤ k * u → s * e < 2 * g → 0 < u → ⊥
    no_way s r k u g e a b c p =
        let m : r * (s * u) ≤ k * u * (s * u) = mul-le-mul_right (s * u) b in
        not-le_of_lt c (le_of_mul-le-mul_right {k = u} (omega arith) p)

-- ---- L units, from 360 to 830; the computed quotient, in units
abbrev quotient : ℕ → ℕ → ℕ
quotient s L = rnd 53 (rnd 53 (L - 360 * U) 1 * U) (s * U)

quotient-mono : (s a b : ℕ) → 0 < s → a ≤ b → rnd 53 (a * U) (s * U) ≤ rnd 53 (b * U) (s * U)
quotient-mono s a b s0 h =
    let c0 : 0 < s * U = mul-pos s0 U_pos in
    rnd-mono 53 (a * U) (s * U) (b * U) (s * U) (lit< tt) c0 c0 (mul-le-mul_right (s * U) (mul-le-mul_right U h))

-- a whole number of steps is that number
exact-quotient : (s k : ℕ) → 0 < s → k < 9007199254740992 → rnd 53 (s * k * U * U) (s * U) ≡ k * U
exact-quotient s k s0 h = rnd_same 53 (s * k * U * U) (s * U) (k * U) 1 (lit< tt) (mul-pos s0 U_pos) (lit< tt) (omega arith) ∙ held_whole k h

-- n steps at most
index-room : (s n k : ℕ) → Grid s n → k ≤ n → k < 9007199254740992
index-room s n k g h = omega (arith, span s n k g h, mul-le-mul_right k (step_pos s n g))

top_le : (x : ℕ) → x ≤ 470 → 360 + x ≤ 830
top_le x h = omega arith

far : (x : ℕ) → x ≤ 470 → x < 9007199254740992
far x h = omega arith

quotient_le : (s n L k : ℕ) → Grid s n → k ≤ n → L ≤ (360 + s * k) * U → quotient s L ≤ k * U
quotient_le s n L k g h l =
    let s0 = step_pos s n g in
    let held = held_whole (s * k) (far (s * k) (span s n k g h)) in
    let d : rnd 53 (L - 360 * U) 1 ≤ s * k * U = le_trans (rnd_mono1 (L - 360 * U) (s * k * U) (omega arith)) (le_of_eq held) in
    le_trans (quotient-mono s (rnd 53 (L - 360 * U) 1) (s * k * U) s0 d) (le_of_eq (exact-quotient s k s0 (index-room s n k g h)))

-- the wavelength is not above the upper grid point
not_above : (s n L k : ℕ) → Grid s n → rnd 53 L 1 ≡ L → 360 * U ≤ L → k ≤ n → quotient s L ≤ k * U → L ≤ (360 + s * k) * U
not_above s n L k g h l b q = elim (below_or_from ((360 + s * k) * U) L) [
  | inl a ↦ absurd (not-le_of_lt (lt_of_lt_of_le (above s n k g b) (past a)) q)
  | inr a ↦ a
]
  where
    past : (360 + s * k) * U < L → rnd 53 ((s * k * U + G) * U) (s * U) ≤ quotient s L
    past a =
        let x = next L (360 + s * k) h (le_trans (mul-le-mul_right U (lit≤ tt)) l) a in
        let held = held_next (s * k) (omega (arith, span s n k g b)) in
        let d = le_trans (le_of_eq (sym held)) (rnd_mono1 (s * k * U + G) (L - 360 * U) (omega arith)) in
        quotient-mono s (s * k * U + G) (rnd 53 (L - 360 * U) 1) (step_pos s n g) d

-- nor below the lower one
not_below : (s n L j : ℕ) → Grid s n → j ≤ n → j * U < quotient s L → (360 + s * j) * U ≤ L
not_below s n L j g b q = elim (below_or_from L ((360 + s * j) * U)) [
  | inl a ↦ absurd (not-le_of_lt q (quotient_le s n L j g b (le_of_lt a)))
  | inr a ↦ a
]

-- so the weight of the upper grid point, (λ - l0) / s, is at most 1
weight-le : (s n L j : ℕ) → Grid s n → L ≤ (360 + s * suc j) * U → rnd 53 (rnd 53 (L - (360 + s * j) * U) 1 * U) (s * U) ≤ U
weight-le s n L j g h =
    let s0 = step_pos s n g in
    let d = L - (360 + s * j) * U in
    let held = held_whole (s * 1) (far (s * 1) (one-step s n g)) in
    let r = le_trans (rnd_mono1 d (s * 1 * U) (omega arith)) (le_of_eq held) in
    le_trans (quotient-mono s (rnd 53 d 1) (s * 1 * U) s0 r) (le_trans (le_of_eq (exact-quotient s 1 s0 (lit< tt))) (le_of_eq (one-mul U)))
  where
    one-step : (s n : ℕ) → Grid s n → s * 1 ≤ 470
    one-step s zero g = absurd (not_470 (s * 0) g.whole (mul-zero s))
    one-step s (suc n) g = span s (suc n) 1 g (omega arith)

-- ---- values from lo to hi, neither of them negative
pub record Range (lo hi x : Float) : Type 0 where
  pub fin : Fin x
  pub above : N x ≡ 0
  pub low : mag lo ≤ mag x
  pub high : mag x ≤ mag hi

pub range_of : (lo hi x : Float) → Fin lo → Fin hi → N lo ≡ 0 → N hi ≡ 0 → T (fits B x) → T (le lo x) → T (le x hi) → Range lo hi x
range_of lo hi x fl fh nl nh f l h =
    let fx : Fin x = (le-finite lo x hi fl.0 fh.0 l h, f) in
    let a = le_parts lo x fl fx l in
    let b = le_parts x hi fx fh h in
    let n : N x ≡ 0 = zero_N (P x) (N x) (P lo) (N lo) a nl (one_side x) in
    record {
      fin = fx;
      above = n;
      low = at_least (P x) (N x) (P lo) (N lo) (mag x) (mag lo) a nl (sum_mag x) (sum_mag lo);
      high = at_most (P x) (N x) (P hi) (N hi) (mag x) (mag hi) b nh n (sum_mag x) (sum_mag hi);
    }
  where
    at_least : (p n a b m l : ℕ) → a + n ≤ p + b → b ≡ 0 → p + n ≡ m → a + b ≡ l → l ≤ m
    at_least p n a b m l h i j k = omega arith

    at_most : (p n a b m l : ℕ) → p + b ≤ a + n → b ≡ 0 → n ≡ 0 → p + n ≡ m → a + b ≡ l → m ≤ l
    at_most p n a b m l h i o j k = omega arith

-- ---- the wavelength, from 360 to 830
thousand_O : 1000 * U < O
unfolding U O
thousand_O = lit< tt

whole_O : (N : ℕ) → N ≤ 1000 → N * U < O
whole_O N h = lt_of_le_of_lt (mul-le-mul_right U h) thousand_O

min_is : Fin lambda_min × (N lambda_min ≡ 0) × (mag lambda_min ≡ 360 * U)
unfolding fits N U
min_is = ((tt, tt), refl, refl)

max_is : Fin lambda_max × (N lambda_max ≡ 0) × (mag lambda_max ≡ 830 * U)
unfolding fits N U
max_is = ((tt, tt), refl, refl)

wave_range : (w : Float) → T (fits B w) → T (in_table w) → Range lambda_min lambda_max w
unfolding in_table within
wave_range w f h =
    let l = and_l (le lambda_min w) (le w lambda_max) h in
    let m = and_r (le lambda_min w) (le w lambda_max) h in
    range_of lambda_min lambda_max w min_is.0 max_is.0 min_is.1 max_is.1 f l m

-- what is accepted lies in the table
pub wave_in_table : (w : Float) → T (is_wavelength w) → T (in_table w)
unfolding is_wavelength in_table
wave_in_table w h = h

-- ---- the grid points
-- the wavelength of the grid point k
abbrev grid_point : Float → ℕ → Float
grid_point step k = lambda_min ⊕ step ⊗ of_int binary64 (pos k)

-- the entries and the weight that `sample_one_at` uses: n is the last index; away from the grid points there is an entry below
pub record Place (step w : Float) (n : ℕ) : Type 0 where
  pub last : upper_point step w ≤ n
  pub inner : eq w (upper_lambda step w) ≡ false → 0 < upper_point step w
  pub weight : 0 < upper_point step w → T (finite (upper_weight step w)) × T (le f0 (upper_weight step w)) × T (le (upper_weight step w) f1)

eq_self : (x : Float) → T (finite x) → T (eq x x)
unfolding eq
eq_self (fin s m e) f =
    let a = m * up e * down e in
    and_i (eqb a a) (beq s s || eqb a 0) (eq→eqb {a = a} {b = a} refl) (either (beq s s) (eqb a 0) (inl (same s)))
  where
    same : (s : Bool) → T (beq s s)
    same false = tt
    same true = tt
eq_self lib.Ieee.nan f = elim f [ ]
eq_self (lib.Ieee.inf _) f = elim f [ ]

module _ (step : Float) (s n : ℕ) (g : Grid s n) (i : Is step false (s * U)) where
  s0 : 0 < s
  s0 = step_pos s n g

  step-fine : Fine step (s * U)
  step-fine = (false, i, refl)

  min-fine : Fine lambda_min (360 * U)
  min-fine = subst (λ (z : ℕ). Fine lambda_min z) min_is.2 (fine_N lambda_min min_is.0 min_is.1)

  -- k steps, and the grid point k
  steps_fine : (k : ℕ) → k ≤ n → Fine (step ⊗ of_int binary64 (pos k)) (s * k * U)
  steps_fine k h =
      let o = of_int binary64 (pos k) in
      let sk = span s n k g h in
      let e : rnd 53 (s * U * (k * U) * U) (U * U) ≡ s * k * U = rnd_same 53 (s * U * (k * U) * U) (U * U) (s * k * U) 1 (lit< tt) (mul-pos U_pos U_pos) (lit< tt) (omega arith) ∙ held_whole (s * k) (far (s * k) sk) in
      let x = mul_ext step o (s * U) (k * U) step-fine (false, int_is k (le_of_lt (far k (omega (arith, mul-le-mul_right k s0)))), refl) in
      fine_under (step ⊗ o) (s * k * U) (subst (λ (z : ℕ). Ext (step ⊗ o) z) e x) (whole_O (s * k) (le_trans sk (lit≤ tt)))

  point_fine : (k : ℕ) → k ≤ n → Fine (grid_point step k) ((360 + s * k) * U)
  point_fine k h =
      let p = step ⊗ of_int binary64 (pos k) in
      let l = lambda_min ⊕ p in
      let sum = 360 + s * k in
      let top : sum ≤ 830 = top_le (s * k) (span s n k g h) in
      let e : rnd 53 (360 * U + s * k * U) 1 ≡ sum * U = ap (λ (z : ℕ). rnd 53 z 1) (omega arith) ∙ held_whole sum (lt_of_le_of_lt top (lit< tt)) in
      let x = add_ext lambda_min p (360 * U) (s * k * U) (inl (whole_O 360 (lit≤ tt), min-fine)) (inl (whole_O (s * k) (le_trans (span s n k g h) (lit≤ tt)), steps_fine k h)) in
      fine_under l (sum * U) (subst (λ (z : ℕ). Ext l z) e x) (whole_O sum (le_trans top (lit≤ tt)))

  -- the grid point below
  lower_fine : (j : ℕ) → suc j ≤ n → Fine (grid_point step (suc j) ⊖ step) ((360 + s * j) * U)
  lower_fine j h =
      let l = grid_point step (suc j) in
      let a = (360 + s * suc j) * U in
      let low = 360 + s * j in
      let top : low ≤ 830 = top_le (s * j) (span s n j g (le_trans (omega arith) h)) in
      let e : rnd 53 (a - s * U) 1 ≡ low * U = ap (λ (z : ℕ). rnd 53 z 1) (less s j U) ∙ held_whole low (lt_of_le_of_lt top (lit< tt)) in
      let x = sub-fine l step a (s * U) (point_fine (suc j) h) step-fine (omega arith) in
      fine_under (l ⊖ step) (low * U) (subst (λ (z : ℕ). Ext (l ⊖ step) z) e x) (whole_O low (le_trans top (lit≤ tt)))
    where
      less : (s j u : ℕ) → (360 + s * suc j) * u - s * u ≡ (360 + s * j) * u
      less s j u = omega arith

  module _ (w : Float) (f : T (fits B w)) (h : T (in_table w)) where
    wave : Range lambda_min lambda_max w
    wave = wave_range w f h

    abbrev L : ℕ
    L = mag w

    low-w : 360 * U ≤ L
    low-w = le_trans (le_of_eq (sym min_is.2)) wave.low

    high-w : L ≤ 830 * U
    high-w = le_trans wave.high (le_of_eq max_is.2)

    held-w : rnd 53 L 1 ≡ L
    held-w = (is_of w wave.fin.0 f).1.0

    w-fine : Fine w L
    w-fine = fine_N w wave.fin wave.above

    -- the quotient, and the index from it up
    abbrev q : Float
    q = (w ⊖ lambda_min) ⊘ step

    n-le : n ≤ 470
    n-le = le_trans (le_of_eq (sym (one-mul n))) (le_trans (mul-le-mul_right n s0) (le_of_eq g.whole))

    q-le : quotient s L ≤ n * U
    q-le = quotient_le s n L n g (le_refl n) (le_trans high-w (le_of_eq (ap (λ (z : ℕ). (360 + z) * U) (sym g.whole))))

    q-fine : Fine q (quotient s L)
    q-fine =
        let d = rnd 53 (L - 360 * U) 1 in
        let d-le : d ≤ 470 * U = le_trans (rnd_mono1 (L - 360 * U) (470 * U) (less L U high-w)) (le_of_eq (held_whole 470 (lit< tt))) in
        let x = sub-fine w lambda_min L (360 * U) w-fine min-fine low-w in
        let y = fine_under (w ⊖ lambda_min) d x (lt_of_le_of_lt d-le (whole_O 470 (lit≤ tt))) in
        let z = div_ext (w ⊖ lambda_min) step d (s * U) y step-fine (mul-pos s0 U_pos) in
        fine_under q (quotient s L) z (lt_of_le_of_lt q-le (whole_O n (le_trans n-le (lit≤ tt))))
      where
        less : (l u : ℕ) → l ≤ 830 * u → l - 360 * u ≤ 470 * u
        less l u h = omega arith

    abbrev k : ℕ
    k = upper_point step w

    k-is : (quotient s L ≤ k * U) × (k * U < quotient s L + U)
    unfolding upper_point
    k-is = ceiling_is q (quotient s L) q-fine (le_trans q-le (mul-le-mul_right U (le_trans n-le (lit≤ tt))))

    k-le : k ≤ n
    k-le = omega (arith, lt_of_mul-lt-mul_right U (lt_of_lt_of_le k-is.1 (next_up (quotient s L) n U q-le)))
      where
        next_up : (q n u : ℕ) → q ≤ n * u → q + u ≤ suc n * u
        next_up q n u h = omega arith

    w_le : L ≤ (360 + s * k) * U
    w_le = not_above s n L k g held-w low-w k-le k-is.0

    -- at index 0 the wavelength is the first grid point
    first : k ≡ 0 → T (eq w (grid_point step k))
    first e =
        let l = grid_point step k in
        let at_360 : (360 + s * k) * U ≡ 360 * U = ap (λ (z : ℕ). (360 + s * z) * U) e ∙ ap (λ (z : ℕ). (360 + z) * U) (mul-zero s) in
        let here : L ≡ 360 * U = le_antisymm (le_trans w_le (le_of_eq at_360)) low-w in
        let pos-360 : 0 < 360 * U = mul-pos (lit< tt) U_pos in
        let l-is = fine_pos l (360 * U) (subst (λ (z : ℕ). Fine l z) at_360 (point_fine k k-le)) pos-360 in
        let w-is = fine_pos w (360 * U) (subst (λ (z : ℕ). Fine w z) here w-fine) pos-360 in
        let same = unique w l false (360 * U) f (add-fits B lambda_min (step ⊗ of_int binary64 (pos k))) w-is l-is in
        subst (λ (z : Float). T (eq w z)) same (eq_self w wave.fin.0)

    -- above index 0 the weight is a share
    share : (j : ℕ) → k ≡ suc j → let x = upper_weight step w in T (finite x) × T (le f0 x) × T (le x f1)
    unfolding upper_weight upper_lambda
    share j e =
        let l = (360 + s * j) * U in
        let lower = grid_point step k ⊖ step in
        let l-fine : Fine lower l = subst (λ (z : ℕ). Fine (grid_point step z ⊖ step) l) (sym e) (lower_fine j (le_trans (le_of_eq (sym e)) k-le)) in
        let j-lt : j * U < quotient s L = less j U (quotient s L) (subst (λ (z : ℕ). z * U < quotient s L + U) e k-is.1) in
        let l_le = not_below s n L j g (le_trans (omega arith) (le_trans (le_of_eq (sym e)) k-le)) j-lt in
        let r = rnd 53 (L - l) 1 in
        let r-le : r ≤ L = le_trans (rnd_mono1 (L - l) L (omega arith)) (le_of_eq held-w) in
        let d = sub-fine w lower L l w-fine l-fine l_le in
        let d-fine = fine_under (w ⊖ lower) r d (lt_of_le_of_lt r-le (is_of w wave.fin.0 f).1.1) in
        let x = div_ext (w ⊖ lower) step r (s * U) d-fine step-fine (mul-pos s0 U_pos) in
        let x-le = weight-le s n L j g (subst (λ (z : ℕ). L ≤ (360 + s * z) * U) e w_le) in
        inside (upper_weight step w) f1 (rnd 53 (r * U) (s * U)) U x unit_ext U_O x-le
      where
        less : (j u q : ℕ) → suc j * u < q + u → j * u < q
        less j u q h = omega arith

    place : Place step w n
    unfolding upper_lambda
    place = record {
      last = k-le;
      inner = λ (e : eq w (upper_lambda step w) ≡ false). above_zero k refl e;
      weight = λ (p : 0 < k). above_one k refl p;
    }
      where
        above_zero : (j : ℕ) → k ≡ j → eq w (grid_point step k) ≡ false → 0 < k
        above_zero zero e z = absurd (subst T z (first e))
        above_zero (suc j) e z = subst (λ (x : ℕ). 0 < x) (sym e) (omega arith)

        above_one : (j : ℕ) → k ≡ j → 0 < k → let x = upper_weight step w in T (finite x) × T (le f0 x) × T (le x f1)
        above_one zero e p = absurd (lt_irrefl 0 (subst (λ (x : ℕ). 0 < x) e p))
        above_one (suc j) e p = share j e

pub place_of : (step w : Float) (s n : ℕ) → Grid s n → Is step false (s * U) → T (fits B w) → T (in_table w) → Place step w n
place_of step w s n g i f h = place step s n g i w f h

-- ---- the value between two entries
-- 2 ^ 50 and 2 ^ 51
abbrev pub k50 : ℕ
k50 = 1125899906842624

abbrev k51 : ℕ
k51 = 2251799813685248

-- from lo to hi up to one part in 2 ^ 50
pub record Nearly (lo hi x : Float) : Type 0 where
  pub fin : Fin x
  pub above : N x ≡ 0
  pub low : k50 * mag lo ≤ k50 * mag x + mag lo
  pub high : k50 * mag x ≤ k50 * mag hi + mag hi

-- the limits are not negative, the lower one is at least 2 ^ -1014, so that no product loses digits, and twice the upper one is finite
pub record Limits (lo hi : Float) : Type 0 where
  pub fin_lo : Fin lo
  pub fin_hi : Fin hi
  pub above_lo : N lo ≡ 0
  pub above_hi : N hi ≡ 0
  pub normal : 1152921504606846976 ≤ mag lo
  pub room : 2 * mag hi < O

-- the computed mean of a and c units, with the weights U - X and X
abbrev mean : ℕ → ℕ → ℕ → ℕ
mean a c X = rnd 53 (rnd 53 (a * rnd 53 (U - X) 1 * U) (U * U) + rnd 53 (c * X * U) (U * U)) 1

-- The products A and C computed as A' and C', and summed as S, with the errors d₁, d₂ and e; h is half a unit's share.
-- W is lo or hi, and the weights sum to 1 up to ε.
two_errors : (A C d₁ d₂ h : ℕ) → M * d₁ ≤ A + h → M * d₂ ≤ C + h → M * (d₁ + d₂) ≤ A + C + 2 * h
two_errors A C d₁ d₂ h a c = omega arith

twice_sum : (W Z ε : ℕ) → W ≤ Z + ε → M * ε ≤ W → W ≤ 2 * Z
twice_sum W Z ε a b = omega arith

products_error : (W Z d h : ℕ) → M * d ≤ Z + 2 * h → 256 * h ≤ W → W ≤ 2 * Z → M/2 * d ≤ Z
products_error W Z d h a o b = omega arith

sum_error : (Z R d e : ℕ) → R ≤ Z + d → M/2 * d ≤ Z → M * e ≤ R → M/2 * e ≤ Z
sum_error Z R d e a b c = omega (arith, le_trans a (twice Z d (omega arith)))
  where
    twice : (Z d : ℕ) → d ≤ Z → Z + d ≤ 2 * Z
    twice Z d l = omega arith

join_errors : (Z d e : ℕ) → M/2 * d ≤ Z → M/2 * e ≤ Z → k51 * (d + e) ≤ Z
join_errors Z d e a b = omega arith

near_products : (A C A' C' d₁ d₂ : ℕ) → Near A' A d₁ → Near C' C d₂ → Near (A' + C') (A + C) (d₁ + d₂)
near_products A C A' C' d₁ d₂ a c = (omega arith, omega arith)

near_sum : (Z R S d e : ℕ) → Near R Z d → Near S R e → Near S Z (d + e)
near_sum Z R S d e a b = (omega arith, omega arith)

total_error : (A C A' C' S d₁ d₂ e h W ε : ℕ) → Near A' A d₁ → M * d₁ ≤ A + h → Near C' C d₂ → M * d₂ ≤ C + h → Near S (A' + C') e → M * e ≤ A' + C'
    → 256 * h ≤ W → W ≤ A + C + ε → M * ε ≤ W → Near S (A + C) (d₁ + d₂ + e) × (k51 * (d₁ + d₂ + e) ≤ A + C)
total_error A C A' C' S d₁ d₂ e h W ε a a' c c' v v' o l l' =
    let Z = A + C in
    let d = d₁ + d₂ in
    let near = near_products A C A' C' d₁ d₂ a c in
    let p = products_error W Z d h (two_errors A C d₁ d₂ h a' c') o (twice_sum W Z ε l l') in
    (near_sum Z (A' + C') S d e near v, join_errors Z d e p (sum_error Z (A' + C') d e near.0 p v'))

mean_low : (Z S f W ε : ℕ) → Z ≤ S + f → k51 * f ≤ Z → W ≤ Z + ε → M * ε ≤ W → k50 * W ≤ k50 * S + W
mean_low Z S f W ε a b c d = elim (below_or_from S W) [
  | inl l ↦ shifted S (f + ε) W (omega arith) (omega (arith, share f W (omega arith)))
  | inr g ↦ at_once S W g
]
  where
    at_once : (S W : ℕ) → W ≤ S → k50 * W ≤ k50 * S + W
    at_once S W g = omega arith

    share : (f W : ℕ) → k51 * f ≤ W + f → 4 * (k50 * f) ≤ 3 * W
    share f W a = omega arith

    shifted : (S t W : ℕ) → W ≤ S + t → k50 * t ≤ W → k50 * W ≤ k50 * S + W
    shifted S t W a b = omega arith

mean_high : (Z S f W ε : ℕ) → S ≤ Z + f → k51 * f ≤ Z → Z ≤ W + ε → M * ε ≤ W → k50 * S ≤ k50 * W + W
mean_high Z S f W ε a b c d = omega (arith, reached Z S f W ε a c, join f ε W (omega (arith, quarter ε W d)) d)
  where
    quarter : (ε W : ℕ) → M * ε ≤ W → 4 * ε ≤ W
    quarter ε W d = omega arith

    reached : (Z S f W ε : ℕ) → S ≤ Z + f → Z ≤ W + ε → S ≤ W + (f + ε)
    reached Z S f W ε a c = omega arith

    join : (f ε W : ℕ) → 8 * (k50 * f) ≤ 5 * W → M * ε ≤ W → k50 * (f + ε) ≤ W
    join f ε W a b = omega arith

mean_nearly : (a c X lo hi : ℕ) → X ≤ U → lo ≤ a → a ≤ hi → lo ≤ c → c ≤ hi → 1152921504606846976 ≤ lo
    → (k50 * lo ≤ k50 * mean a c X + lo) × (k50 * mean a c X ≤ k50 * hi + hi)
mean_nearly a c X lo hi x la ha lc hc far =
    let Y = rnd 53 (U - X) 1 in
    let y = unscale Y (U - X) (U - X) (rnd_whole 53 (U - X) (lit< tt)) in
    let δ = y.0 in
    let δ-le : M * δ ≤ U = le_trans y.2 (omega arith) in
    let A = a * Y in
    let C = c * X in
    let p = rnd 53 (A * U) (U * U) in
    let q = rnd 53 (C * U) (U * U) in
    let pe = unscale (p * U) A (A + M/2 * U) (mul-rnd A) in
    let qe = unscale (q * U) C (C + M/2 * U) (mul-rnd C) in
    let se = sum_err (p + q) in
    let v = rnd 53 (p + q) 1 in
    let v-near : Near (v * U) (p * U + q * U) se.0 = omega arith in
    let v-le : M * se.0 ≤ p * U + q * U = le_trans se.2 (le_of_eq (omega arith)) in
    let half : 256 * (M/2 * U) ≤ lo * U = le_trans (le_of_eq (sym (mul_assoc 256 M/2 U))) (le_trans (mul-le-mul_right U (lit≤ tt)) (mul-le-mul_right U far)) in
    let low : lo * U ≤ A + C + lo * δ = weighed-low a c X Y lo U δ la lc (parted X Y U δ x y.1.1) in
    let high : A + C ≤ hi * U + hi * δ = weighed-high a c X Y hi U δ ha hc (omega arith) in
    let small-lo = small lo δ U δ-le in
    let err = total_error A C (p * U) (q * U) (v * U) pe.0 qe.0 se.0 (M/2 * U) (lo * U) (lo * δ) pe.1 pe.2 qe.1 qe.2 v-near v-le half low small-lo in
    let f = pe.0 + qe.0 + se.0 in
    let l = mean_low (A + C) (v * U) f (lo * U) (lo * δ) err.0.1 err.1 low small-lo in
    let h = mean_high (A + C) (v * U) f (hi * U) (hi * δ) err.0.0 err.1 high (small hi δ U δ-le) in
    (cancel k50 lo v lo l, cancel k50 v hi hi h)
  where
    parted : (x y u d : ℕ) → x ≤ u → u - x ≤ y + d → u ≤ x + y + d
    parted x y u d h k = omega arith

    small : (m d u : ℕ) → M * d ≤ u → M * (m * d) ≤ m * u
    small m d u h = omega (arith, mul-le-mul_left m h)

    weighed-low : (a c x y m u d : ℕ) → m ≤ a → m ≤ c → u ≤ x + y + d → m * u ≤ a * y + c * x + m * d
    weighed-low a c x y m u d h k l = omega (arith, mul-le-mul_right y h, mul-le-mul_right x k, mul-le-mul_left m l)

    weighed-high : (a c x y m u d : ℕ) → a ≤ m → c ≤ m → x + y ≤ u + d → a * y + c * x ≤ m * u + m * d
    weighed-high a c x y m u d h k l = omega (arith, mul-le-mul_right y h, mul-le-mul_right x k, mul-le-mul_left m l)

    cancel : (k x y z : ℕ) → k * (x * U) ≤ k * (y * U) + z * U → k * x ≤ k * y + z
    cancel k x y z h = le_of_mul-le-mul_right {k = U} (omega arith) U_pos

pub interpolate_nearly : (lo hi x i₀ i₁ : Float) → Limits lo hi → T (fits B x) → T (le f0 x) → T (le x f1) → Range lo hi i₀ → Range lo hi i₁ → Nearly lo hi (interpolate x i₀ i₁)
unfolding interpolate
interpolate_nearly lo hi x i₀ i₁ b f l h r₀ r₁ =
    let s = share_of x f l h in
    let X = s.0 in
    let a = mag i₀ in
    let c = mag i₁ in
    let y = f1 ⊖ x in
    let Y = rnd 53 (U - X) 1 in
    let Y-le : Y ≤ U = le_trans (rnd_mono1 (U - X) U (omega arith)) (le_of_eq U_held.0) in
    let y-fine = fine_under y Y (sub-fine f1 x U X unit_fine s.1 s.2) (lt_of_le_of_lt Y-le U_O) in
    let p = mul_ext i₀ y a Y (fine_N i₀ r₀.fin r₀.above) y-fine in
    let q = mul_ext i₁ x c X (fine_N i₁ r₁.fin r₁.above) s.1 in
    let v = i₀ ⊗ y ⊕ i₁ ⊗ x in
    let m = mean a c X in
    let e : Ext v m = add_ext (i₀ ⊗ y) (i₁ ⊗ x) (rnd 53 (a * Y * U) (U * U)) (rnd 53 (c * X * U) (U * U)) p q in
    let n = mean_nearly a c X (mag lo) (mag hi) s.2 r₀.low r₀.high r₁.low r₁.high b.normal in
    let t = pos_of v m (add-fits B (i₀ ⊗ y) (i₁ ⊗ x)) e (lt_of_le_of_lt (twice m (mag hi) n.1) b.room) in
    record { fin = t.fin; above = t.zero_N; low = rw t.is n.0; high = rw t.is n.1 }
  where
    twice : (m h : ℕ) → k50 * m ≤ k50 * h + h → m ≤ 2 * h
    twice m h l = omega arith

-- an entry itself
entry_nearly : (lo hi x : Float) → Range lo hi x → Nearly lo hi x
entry_nearly lo hi x r = record { fin = r.fin; above = r.above; low = more (mag lo) (mag x) r.low; high = more' (mag x) (mag hi) r.high }
  where
    more : (a b : ℕ) → a ≤ b → k50 * a ≤ k50 * b + a
    more a b h = omega arith

    more' : (a b : ℕ) → a ≤ b → k50 * a ≤ k50 * b + b
    more' a b h = omega arith

-- ---- the looked-up value
-- every entry, and NaN past the end, is a value of the format
abbrev pub AllFit : List Float → Type 0
AllFit values = (i : ℕ) → T (fits B (entry values i))

entry_range : (lo hi : Float) (values : List Float) (i n : ℕ) → Limits lo hi → AllFit values → T (all_within lo hi values) → length values ≡ suc n → i ≤ n → Range lo hi (entry values i)
unfolding within all_within
entry_range lo hi values i n b f h e l =
    let v = entry values i in
    let t = entry-every (within lo hi) values i h (lt_of_le_of_lt l (lt_of_lt_of_le (omega arith) (le_of_eq (sym e)))) in
    range_of lo hi v b.fin_lo b.fin_hi b.above_lo b.above_hi (f i) (and_l (le lo v) (le v hi) t) (and_r (le lo v) (le v hi) t)

pub not_terminated : (w : Float) → T (fits B w) → T (in_table w) → T (eq w terminated) → ⊥
unfolding le fits P N U
not_terminated w f h t =
    let r = wave_range w f h in
    let l = le_parts w f0 r.fin (tt, tt) (either (lt w f0) (eq w f0) (inr t)) in
    none (P w) (N w) (mag w) (sum_mag w) r.above (lt_of_lt_of_le (lit< tt) r.low) l
  where
    none : (p n m : ℕ) → p + n ≡ m → n ≡ 0 → 0 < m → p + 0 ≤ 0 + n → ⊥
    none p n m a b c d = omega arith

pub sample_nearly : (step w lo hi : Float) (s n : ℕ) (values : List Float) → Grid s n → Is step false (s * U) → T (fits B w) → T (in_table w)
    → Limits lo hi → length values ≡ suc n → AllFit values → T (all_within lo hi values) → Nearly lo hi (sample_one_at step values w)
unfolding sample_one_at upper_weight
sample_nearly step w lo hi s n values g i f h b e a t = started (eq w terminated) (not_terminated w f h)
  where
    place : Place step w n
    place = place_of step w s n g i f h

    at_entry : (j : ℕ) → j ≤ n → Range lo hi (entry values j)
    at_entry j l = entry_range lo hi values j n b a t e l

    below : (k : ℕ) → k ≤ n → k - 1 ≤ n
    below k l = omega arith

    away : (c : Bool) → eq w (upper_lambda step w) ≡ c
        → let k = upper_point step w in Nearly lo hi (cond c (entry values k) (interpolate (upper_weight step w) (entry values (k - 1)) (entry values k)))
    away true q = entry_nearly lo hi (entry values (upper_point step w)) (at_entry (upper_point step w) place.last)
    away false q =
        let k = upper_point step w in
        let x = upper_weight step w in
        let s = place.weight (place.inner q) in
        let x_Fits = div-fits B (w ⊖ (upper_lambda step w ⊖ step)) step in
        interpolate_nearly lo hi x (entry values (k - 1)) (entry values k) b x_Fits s.1 s.2 (at_entry (k - 1) (below k place.last)) (at_entry k place.last)

    started : (c : Bool) → (T c → ⊥)
        → let k = upper_point step w in
        Nearly lo hi (cond c f0 (cond (eq w (upper_lambda step w)) (entry values k) (interpolate (upper_weight step w) (entry values (k - 1)) (entry values k))))
    started true z = absurd (z tt)
    started false z = away (eq w (upper_lambda step w)) refl

-- ---- from 1 / k to k
pub record Around (k : ℕ) (e : Float) : Type 0 where
  pub fin : Fin e
  pub above : N e ≡ 0
  pub low : U ≤ k * mag e
  pub high : mag e ≤ k * U

-- what is read of a spectrum whose entries are from 0.01 to 100, as document 01's eta
abbrev pub read_bits : ℕ
read_bits = 7

abbrev pub read_most : ℕ
read_most = 2 ^ read_bits

abbrev pub Read : Float → Type 0
Read e = Around read_most e

-- an index of refraction: the quotient of two such
abbrev pub index_bits : ℕ
index_bits = 2 * read_bits

abbrev pub index_most : ℕ
index_most = 2 ^ index_bits

abbrev pub Index : Float → Type 0
Index e = Around index_most e

pub read_index : (e : Float) → Read e → Index e
read_index e h = record { fin = h.fin; above = h.above; low = le_trans h.low (mul-le-mul_right (mag e) (lit≤ tt)); high = le_trans h.high (mul-le-mul_right U (lit≤ tt)) }

pub eta-limits : Limits (decimal 1 100) (decimal 100 1)
unfolding decimal fits N U O
eta-limits = record { fin_lo = (tt, tt); fin_hi = (tt, tt); above_lo = refl; above_hi = refl; normal = lit≤ tt; room = lit< tt }

eta_sizes : (U ≤ 100 * mag (decimal 1 100)) × (mag (decimal 100 1) ≤ 100 * U)
unfolding decimal U
eta_sizes = (lit≤ tt, lit≤ tt)

read_nearly : (e : Float) → Nearly (decimal 1 100) (decimal 100 1) e → Read e
read_nearly e h =
    let lo = mag (decimal 1 100) in
    let hi = mag (decimal 100 1) in
    record { fin = h.fin; above = h.above; low = at_least U lo (mag e) eta_sizes.0 h.low; high = at_most U hi (mag e) eta_sizes.1 h.high }
  where
    at_least : (u l m : ℕ) → u ≤ 100 * l → k50 * l ≤ k50 * m + l → u ≤ read_most * m
    at_least u l m a b = omega arith

    at_most : (u l m : ℕ) → l ≤ 100 * u → k50 * m ≤ k50 * l + l → m ≤ read_most * u
    at_most u l m a b = omega arith

pub sample_index_at : (step w : Float) (s n : ℕ) (values : List Float) → Grid s n → Is step false (s * U) → T (fits B w) → T (in_table w)
    → length values ≡ suc n → AllFit values → T (all_within (decimal 1 100) (decimal 100 1) values) → Read (sample_one_at step values w)
sample_index_at step w s n values g i f h e a t =
    read_nearly (sample_one_at step values w) (sample_nearly step w (decimal 1 100) (decimal 100 1) s n values g i f h eta-limits e a t)

-- ---- a table's length tells its step and its last index
pub record Table (values : List Float) : Type 0 where
  pub s : ℕ
  pub n : ℕ
  pub grid : Grid s n
  pub step : Is (step_of values) false (s * U)
  pub entries : length values ≡ suc n

dense_table : (values : List Float) → length values ≡ dense_samples → Table values
dense_table values e =
    let step = subst (λ (x : Float). Is x false (5 * U)) (sym (dense_step_lem values e)) (refl, omega arith) in
    record { s = 5; n = 94; grid = grid_5; step = step; entries = e }

fine_table : (values : List Float) → length values ≡ fine_samples → Table values
fine_table values e =
    let step = subst (λ (x : Float). Is x false (1 * U)) (sym (fine_step_lem values e)) (refl, omega arith) in
    record { s = 1; n = 470; grid = grid_1; step = step; entries = e }

pub table_of : (values : List Float) → T (is_table values) → Table values
unfolding is_table
table_of values h = elim (or_yes (eqb (length values) dense_samples) (eqb (length values) fine_samples) h) [
  | inl dense ↦ dense_table values (eqb→eq (length values) dense_samples dense)
  | inr fine ↦ fine_table values (eqb→eq (length values) fine_samples fine)
]

pub table_place : (w : Float) (values : List Float) (t : Table values) → T (fits B w) → T (in_table w) → Place (step_of values) w t.n
table_place w values t f h = place_of (step_of values) w t.s t.n t.grid t.step f h

pub sample_index : (w : Float) (values : List Float) → T (fits B w) → T (in_table w)
    → T (is_table values) → AllFit values → T (all_within (decimal 1 100) (decimal 100 1) values) → Read (sample_one values w)
unfolding sample_one
sample_index w values f h table a l =
    let t = table_of values table in
    sample_index_at (step_of values) w t.s t.n values t.grid t.step f h t.entries a l

-- the first entry itself is such a value
pub first_index : (values : List Float) → T (is_table values) → AllFit values → T (all_within (decimal 1 100) (decimal 100 1) values) → Read (entry values 0)
first_index values table a l =
    let t = table_of values table in
    let lo = decimal 1 100 in
    let hi = decimal 100 1 in
    read_nearly (entry values 0) (entry_nearly lo hi (entry values 0) (entry_range lo hi values 0 t.n eta-limits a l t.entries zero-le))
