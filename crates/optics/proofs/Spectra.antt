-- What the spectra of an accepted surface are at a wavelength from 360 to 830.
-- Proved: eta is finite and from 1 / 128 to 128 (`eta_read`), so an index (`eta-index`), and on glass k compares equal to 0 (`glass-k-zero`). The
-- first by the lookup's laws of the crate `numbers`; the second since a sum of products with zeros, of either sign, is a zero.
use Rattle.std.proofs.Common.{◌≡◌, refl, sym, ap, ◌∙◌, subst, inl, inr, Bool, true, false, ◌&&◌, ◌||◌, cond, List, [], ◌∷◌, ℕ, zero, suc, ◌-◌, ◌*◌, ◌≤◌, ◌<◌, zero-le, le_trans, le_of_eq, lt_of_le_of_lt, not-le_of_lt, mul-pos, zero-lt-suc, arith, T, eqb, lit<, length, Float}
use mathlib.Core.Bool.{beq}
use lib.Ieee.{nan, inf, fin, Format, binary64, up, down, le, eq, fits}
use lib.Ieee.Fits.{and_l, and_r, and_i, eq→eqb, div-fits, sub-fits}
use Rattle.floats.proofs.Rounding.{rnd}
use Rattle.floats.proofs.Rounding.Units.{U, O, U_pos, U_O, either}
use Rattle.floats.proofs.Rounding.NonNegative.{Ext, Fine, mul_ext, add_ext, nil_ext, fine_of, rnd-zero, share_of}
use Rattle.numbers.proofs.dense_spectrum.Interpolation.{Read, Index, read_index, AllFit, Place, range_of, Table, table_of, table_place, sample_index, wave_in_table}
use Rattle.floats.proofs.Rounding.Shares.{shares}
use Rattle.floats.specs.Float.{◌⊕◌, ◌⊖◌, ◌⊗◌, f0, f1, decimal, within}
use Rattle.numbers.specs.DenseSpectrum.{step_of, is_table, one_spacing, terminated, entry, interpolate, upper_point, upper_lambda, upper_weight, sample_one_at, sample_one, all_within, is_wavelength}
use Rattle.optics.specs.F64.{AllF64}
use Rattle.optics.specs.Surface.{eta_min, eta_max, eta_holds, all_zero, k_entries_hold, k_holds, eta_from, k_from, eta_at, k_at}
use Rattle.optics.specs.declared.microfacet.{Kind.Kind, Kind.TheVariants.Glass}
use Rattle.floats.proofs.Rounding.Sizes.{f0_upto, f0_parts, fine_N}
use Rattle.numbers.proofs.dense_spectrum.Every.{entry-every}
use Rattle.numbers.proofs.dense_spectrum.Spacing.{shared_step}

abbrev B : Format
B = binary64

-- ---- entries of binary64, by their index; NaN past the end is a value of the format too
pub all_fit : (values : List Float) → AllF64 values → AllFit values
unfolding AllF64 fits
all_fit [] h i = tt
all_fit (x ∷ xs) h zero = h.0
all_fit (x ∷ xs) h (suc i) = all_fit xs h.1 i

-- ---- eta
pub max_is : eta_max ≡ decimal 100 1
unfolding decimal
max_is = refl

pub eta_read : (eta : List Float) (lambda : Float) → AllFit eta → T (eta_holds eta) → T (fits B lambda) → T (is_wavelength lambda)
    → Read (eta_at eta lambda)
unfolding eta_holds eta_min eta_at eta_from sample_one
eta_read eta lambda all holds f w =
    let table = and_l (is_table eta) (all_within (decimal 1 100) eta_max eta) holds in
    let limits = and_r (is_table eta) (all_within (decimal 1 100) eta_max eta) holds in
    sample_index lambda eta f (wave_in_table lambda w) table all (subst (λ (hi : Float). T (all_within (decimal 1 100) hi eta)) max_is limits)

pub eta-index : (eta : List Float) (lambda : Float) → AllFit eta → T (eta_holds eta) → T (fits B lambda) → T (is_wavelength lambda)
    → Index (eta_at eta lambda)
eta-index eta lambda all holds f w = read_index (eta_at eta lambda) (eta_read eta lambda all holds f w)

-- ---- zeros of either sign: no units
abbrev Zero : Float → Type 0
Zero x = Ext x 0

not_O : O ≤ 0 → ⊥
not_O h = not-le_of_lt (lt_of_le_of_lt zero-le U_O) h

zero-eq : (x : Float) → Zero x → T (eq x f0)
unfolding eq
zero-eq x (inr h) = absurd (not_O h.0)
zero-eq nan (inl h) = absurd h.1.1
zero-eq (inf s) (inl h) = absurd h.1.1
zero-eq (fin s m e) (inl h) =
    let a = m * up e * 1 in
    let none : a ≡ 0 = null (m * up e) (down e) U h.1.1.1 U_pos in
    let level = eq→eqb {a = a} {b = 0 * 1 * down e} (none ∙ sym (omega arith)) in
    and_i (eqb a (0 * 1 * down e)) (beq s false || eqb a 0) level (either (beq s false) (eqb a 0) (inr (eq→eqb none)))
  where
    null : (a d u : ℕ) → a * u ≡ 0 * d → 0 < u → a * 1 ≡ 0
    null zero d u h p = refl
    null (suc a) d u h p = absurd (not-le_of_lt (mul-pos (zero-lt-suc a) p) (le_of_eq (h ∙ none d)))
      where
        none : (d : ℕ) → 0 * d ≡ 0
        none d = omega arith

zero-entry : (x : Float) → T (fits B x) → T (within f0 f0 x) → Fine x 0
unfolding within
zero-entry x f h =
    let low = and_l (le f0 x) (le x f0) h in
    let high = and_r (le f0 x) (le x f0) h in
    let r = range_of f0 f0 x f0_upto.fin f0_upto.fin f0_parts.1 f0_parts.1 f low high in
    subst (λ (n : ℕ). Fine x n) (omega (arith, le_trans r.high (le_of_eq f0_parts.2))) (fine_N x r.fin r.above)

zero-product : (i y : Float) (b : ℕ) → Fine i 0 → Fine y b → Zero (i ⊗ y)
zero-product i y b hi hy =
    let p = mul-pos U_pos U_pos in
    subst (λ (n : ℕ). Ext (i ⊗ y) n) (ap (λ (n : ℕ). rnd 53 n (U * U)) (omega arith) ∙ rnd-zero (U * U) p) (mul_ext i y 0 b hi hy)

zero_between : (x i₀ i₁ : Float) → T (fits B x) → T (le f0 x) → T (le x f1) → Fine i₀ 0 → Fine i₁ 0 → Zero (interpolate x i₀ i₁)
unfolding interpolate
zero_between x i₀ i₁ f low high h₀ h₁ =
    let s = shares x f low high in
    let y = f1 ⊖ x in
    let a = share_of x f low high in
    let b = fine_of y (sub-fits B f1 x) s.1 s.0 in
    let sum = add_ext (i₀ ⊗ y) (i₁ ⊗ x) 0 0 (zero-product i₀ y b.0 h₀ b.1) (zero-product i₁ x a.0 h₁ a.1) in
    subst (λ (n : ℕ). Ext (i₀ ⊗ y ⊕ i₁ ⊗ x) n) (rnd-zero 1 (lit< tt)) sum

zero_sample : (k : List Float) (w : Float) → AllFit k → T (is_table k) → T (all_zero k) → T (fits B w) → T (is_wavelength w)
    → Zero (sample_one k w)
unfolding sample_one sample_one_at all_zero all_within upper_weight
zero_sample k w all table z f h = ended (eq w terminated)
  where
    t : Table k
    t = table_of k table

    step : Float
    step = step_of k

    place : Place step w t.n
    place = table_place w k t f (wave_in_table w h)

    j : ℕ
    j = upper_point step w

    at : (i : ℕ) → i ≤ t.n → Fine (entry k i) 0
    at i l = zero-entry (entry k i) (all i) (entry-every (within f0 f0) k i z (inside i t.n (length k) l t.entries))
      where
        inside : (i n m : ℕ) → i ≤ n → m ≡ suc n → i < m
        inside i n m l e = omega arith

    below : (i n : ℕ) → i ≤ n → i - 1 ≤ n
    below i n l = omega arith

    x : Float
    x = upper_weight step w

    between : (b : Bool) → eq w (upper_lambda step w) ≡ b → Zero (cond b (entry k j) (interpolate x (entry k (j - 1)) (entry k j)))
    between true e = inl (lt_of_le_of_lt zero-le U_O, at j place.last)
    between false e =
        let s = place.weight (place.inner e) in
        let fx = div-fits B (w ⊖ (upper_lambda step w ⊖ step)) step in
        zero_between x (entry k (j - 1)) (entry k j) fx s.1 s.2 (at (j - 1) (below j t.n place.last)) (at j place.last)

    ended : (b : Bool) → Zero (cond b f0 (cond (eq w (upper_lambda step w)) (entry k j) (interpolate x (entry k (j - 1)) (entry k j))))
    ended true = nil_ext
    ended false = between (eq w (upper_lambda step w)) refl

-- on a surface that is accepted k is read at its own spacing, as any spectrum is
pub k_own : (kind : Kind) (eta k : List Float) (lambda : Float) → T (k_holds kind eta k) → k_at eta k lambda ≡ sample_one k lambda
unfolding k_holds k_at k_from sample_one
k_own kind eta k lambda holds =
    ap (λ (step : Float). sample_one_at step k lambda) (shared_step eta k (and_r (is_table k) (one_spacing eta k) (and_l (is_table k && one_spacing eta k) (k_entries_hold kind k) holds)))

-- on glass k is all zero
pub glass-k-zero : (eta k : List Float) (lambda : Float) → AllFit k → T (k_holds Glass eta k) → T (fits B lambda) → T (is_wavelength lambda)
    → T (eq (k_at eta k lambda) f0)
unfolding k_holds k_entries_hold
glass-k-zero eta k lambda all holds f w =
    let table = and_l (is_table k) (one_spacing eta k) (and_l (is_table k && one_spacing eta k) (all_zero k) holds) in
    let zeros = and_r (is_table k && one_spacing eta k) (all_zero k) holds in
    rw (k_own Glass eta k lambda holds) (zero-eq (sample_one k lambda) (zero_sample k lambda all table zeros f w))
