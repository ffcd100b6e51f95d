-- The Fresnel term for a real index from 1 / 2 ^ 14 to 2 ^ 14, at any cosine: it is a NaN, or finite and from 0 to 1 (`fr_real_any`).
-- A density takes it at a half vector whose length may be 0 or overflow, so nothing bounds the cosine there. A cosine that is a NaN
-- gives one. Where an infinity comes up, as the cosine, the root inside, or a product with the index, it meets itself in a quotient
-- (a - b) / (a + b), which is then a NaN; and where none does the term is from 0 to 1 as in Fresnel.
use Rattle.std.proofs.Common.{◌≡◌, refl, sym, ap, ◌∙◌, subst, ◌⊎◌, inl, inr, Bool, true, false, not, cond, ℕ, zero, suc, ◌<◌, lt_of_lt_of_le, T, T_not, Float}
use lib.Ieee.{nan, inf, fin, Format, binary64, is_nan, neg, add, sub, mul, div, le, lt, eq, fits}
use lib.Ieee.Fits.{mul-fits, div-fits, sub-fits}
use Rattle.floats.proofs.Rounding.Units.{U, U_pos, sign, mag, is_of, is_finite_lem, add_is, sum_is, sub_opens, add-nan}
use Rattle.floats.proofs.Rounding.NonNegative.{Ext}
use Rattle.floats.proofs.Rounding.Error.{Fin, N, neg_parts}
use Rattle.numbers.proofs.dense_spectrum.Interpolation.{Index}
use Rattle.numbers.proofs.vec3.UnitVector.{sq, sq_ext}
use Rattle.floats.specs.Float.{◌⊕◌, ◌⊖◌, ◌⊗◌, ◌⊘◌, f0, f1, f2, max, abs}
use Rattle.floats.specs.SquareRoot.{sqrt, square_root}
use Rattle.optics.specs.Fresnel.{index_from, sin2_i, is_total, cos_i, contrast, mean_square, unpolarized, fr_facing, fr_real, fresnel}
use Rattle.floats.proofs.Rounding.Sizes.{Number, round_number, div-number, factor_pos, f1_upto}
use Rattle.floats.proofs.Rounding.Shares.{Share, f1-share}
use Rattle.optics.proofs.Fresnel.{index_from_lem, square_most, index-square, gap, Inner, inner_of, product_size, product_ext, indexed_below, unpolarized-share, fresnel_real}

abbrev B : Format
B = binary64

abbrev pub NanOrShare : Float → Type 0
NanOrShare F = (F ≡ nan) ⊎ Share F

-- ---- an infinity in a quotient (a - b) / (a + b), and a NaN in the mean of squares
contrast_to_inf : (z : Float) → contrast z (inf false) ≡ nan
unfolding contrast sub add neg div
contrast_to_inf nan = refl
contrast_to_inf (inf false) = refl
contrast_to_inf (inf true) = refl
contrast_to_inf (fin s m e) = refl

contrast_from_inf : (y : Float) → contrast (inf false) y ≡ nan
unfolding contrast sub add neg div
contrast_from_inf nan = refl
contrast_from_inf (inf false) = refl
contrast_from_inf (inf true) = refl
contrast_from_inf (fin s m e) = refl

contrast_from-nan : (y : Float) → contrast nan y ≡ nan
unfolding contrast sub add div
contrast_from-nan y = refl

half-nan : nan ⊘ f2 ≡ nan
unfolding div
half-nan = refl

mean_from-nan : (b : Float) → mean_square nan b ≡ nan
unfolding mean_square mul add div
mean_from-nan b = refl

mean_to-nan : (a : Float) → mean_square a nan ≡ nan
unfolding mean_square mul
mean_to-nan a = ap (λ (x : Float). x ⊘ f2) (add-nan (a ⊗ a)) ∙ half-nan

-- so each of the two quotients makes the whole a NaN
first_nan : (e c i : Float) → contrast (e ⊗ c) i ≡ nan → unpolarized e c i ≡ nan
unfolding unpolarized
first_nan e c i h = ap (λ (p : Float). mean_square p (contrast c (e ⊗ i))) h ∙ mean_from-nan (contrast c (e ⊗ i))

second_nan : (e c i : Float) → contrast c (e ⊗ i) ≡ nan → unpolarized e c i ≡ nan
unfolding unpolarized
second_nan e c i h = ap (λ (s : Float). mean_square (contrast (e ⊗ c) i) s) h ∙ mean_to-nan (contrast (e ⊗ c) i)

-- ---- the sine's square is a number if the cosine is
-- the infinity, or finite and not below 0
abbrev Size : Float → Type 0
Size x = (x ≡ inf false) ⊎ (Fin x × (N x ≡ 0))

sum_number : (x y : Float) → Fin x → Fin y → Number (x ⊕ y)
sum_number x y f g =
    let r = sum_is (sign x) (sign y) (mag x) (mag y) in
    let is = add_is x y (sign x) (sign y) (mag x) (mag y) (is_of x f.0 f.1).0 (is_of y g.0 g.1).0 ∙ r.is in
    subst (λ (z : Float). Number z) (sym is) (round_number r.sig r.size U)

one_minus_inf : Number (f1 ⊖ inf false)
unfolding sub add neg is_nan
one_minus_inf = tt

inf_sq : inf false ⊗ inf false ≡ inf false
unfolding mul
inf_sq = refl

-- 1 - c²
numerator : (c : Float) → Size c → Number (f1 ⊖ c ⊗ c)
numerator c (inl e) = subst (λ (x : Float). Number (f1 ⊖ x ⊗ x)) (sym e) (subst (λ (x : Float). Number (f1 ⊖ x)) (sym inf_sq) one_minus_inf)
numerator c (inr h) = go (sq_ext c h.0)
  where
    go : Ext (c ⊗ c) (sq (mag c)) → Number (f1 ⊖ c ⊗ c)
    go (inr q) = subst (λ (x : Float). Number (f1 ⊖ x)) (sym q.1) one_minus_inf
    go (inl q) =
        let y = c ⊗ c in
        let f : Fin y = (is_finite_lem y q.1.0 (sq (mag c)) q.1.1, mul-fits B c c) in
        subst (λ (z : Float). Number z) (sym (sub_opens f1 y)) (sum_number f1 (neg y) f1_upto.fin (neg_parts y f).0)

nan-number : Number nan → ⊥
unfolding is_nan
nan-number t = t

inf_over : (s : Bool) (y : Float) → Fin y → Number (inf s ⊘ y)
unfolding div is_nan
inf_over s nan f = absurd f.0
inf_over s (inf t) f = absurd f.0
inf_over s (fin t n d) f = tt

-- a number by a finite one that is not 0
over : (x y : Float) → T (fits B x) → Number x → Fin y → 0 < mag y → Number (x ⊘ y)
over nan y f n g p = absurd (nan-number n)
over (inf s) y f n g p = inf_over s y g
over (fin s m e) y f n g p = div-number (fin s m e) y (tt, f) g p

sin2_number : (c e : Float) → Size c → Index e → Number (sin2_i c e)
unfolding sin2_i
sin2_number c e h i =
    let q = index-square e i in
    over (f1 ⊖ c ⊗ c) (e ⊗ e) (sub-fits B f1 (c ⊗ c)) (numerator c h) q.0
    (factor_pos square_most (mag (e ⊗ e)) (lt_of_lt_of_le U_pos q.1))

sin2_fits : (c e : Float) → T (fits B (sin2_i c e))
unfolding sin2_i
sin2_fits c e = div-fits B (f1 ⊖ c ⊗ c) (e ⊗ e)

-- ---- the cosine inside is the infinity, or above 0
root_inf : sqrt (max (inf false) f0) ≡ inf false
unfolding max is_nan lt square_root
root_inf = refl

inner_inf : (s : Float) → f1 ⊖ s ≡ inf false → cos_i s ≡ inf false
unfolding cos_i
inner_inf s h = ap (λ (d : Float). sqrt (max d f0)) h ∙ root_inf

one_minus_minus_inf : f1 ⊖ inf true ≡ inf false
unfolding sub add neg
one_minus_minus_inf = refl

total_inf : T (is_total (inf false))
unfolding is_total le lt
total_inf = tt

not_total : (s : Float) → T (not (is_total s)) → T (not (le f1 s))
unfolding is_total
not_total s t = t

inner_any : (s : Float) → T (fits B s) → Number s → T (not (is_total s)) → (cos_i s ≡ inf false) ⊎ Inner (cos_i s)
inner_any nan f n t = absurd (nan-number n)
inner_any (inf true) f n t = inl (inner_inf (inf true) one_minus_minus_inf)
inner_any (inf false) f n t = absurd (T_not (is_total (inf false)) t total_inf)
inner_any (fin u m e) f n t = go (gap s (tt, f) (not_total s t))
  where
    s : Float
    s = fin u m e

    go : (n : ℕ) × Ext (f1 ⊖ s) n × (0 < n) → (cos_i s ≡ inf false) ⊎ Inner (cos_i s)
    go (n, inl q, p) = inr (inner_of s n (inl q) p q.0)
    go (n, inr q, p) = inl (inner_inf s q.1)

-- ---- the whole term
unpolarized_any : (e c i : Float) → Index e → Size c → (i ≡ inf false) ⊎ Inner i → NanOrShare (unpolarized e c i)
unpolarized_any e c i he hc (inl q) = inl (first_nan e c i (ap (λ (z : Float). contrast (e ⊗ c) z) q ∙ contrast_to_inf (e ⊗ c)))
unpolarized_any e c i he (inl q) (inr y) = inl (second_nan e c i (ap (λ (z : Float). contrast z (e ⊗ i)) q ∙ contrast_from_inf (e ⊗ i)))
unpolarized_any e c i he (inr h) (inr y) = go (product_ext e c he h.0 h.1) (product_ext e i he y.fin y.above)
  where
    go : Ext (e ⊗ c) (product_size e c) → Ext (e ⊗ i) (product_size e i) → NanOrShare (unpolarized e c i)
    go (inr q) r = inl (first_nan e c i (ap (λ (z : Float). contrast z i) q.1 ∙ contrast_from_inf i))
    go (inl q) (inr r) = inl (second_nan e c i (ap (λ (z : Float). contrast c z) r.1 ∙ contrast_to_inf c))
    go (inl q) (inl r) =
        let ec = indexed_below e c he h.0 h.1 q.0 in
        let ei = indexed_below e i he y.fin y.above r.0 in
        inr (unpolarized-share e c i h.0 h.1 y ec ei)

facing_any : (c e : Float) → Size c → Index e → NanOrShare (fr_facing c e)
unfolding fr_facing
facing_any c e h i = go (is_total s) (inner_any s (sin2_fits c e) (sin2_number c e h i))
  where
    s : Float
    s = sin2_i c e

    go : (b : Bool) → (T (not b) → (cos_i s ≡ inf false) ⊎ Inner (cos_i s)) → NanOrShare (cond b f1 (unpolarized e c (cos_i s)))
    go true f = inr f1-share
    go false f = unpolarized_any e c (cos_i s) i h (f tt)

-- a NaN is not total reflection
facing-nan_is : (e : Float) → fr_facing nan e ≡ unpolarized e nan (cos_i nan)
unfolding fr_facing is_total sin2_i le lt eq sub add neg mul div
facing-nan_is e = refl

facing-nan : (e : Float) → fr_facing nan e ≡ nan
facing-nan e = facing-nan_is e ∙ second_nan e nan (cos_i nan) (contrast_from-nan (e ⊗ cos_i nan))

pub fr_real_any : (c e : Float) → T (fits B c) → Index e → NanOrShare (fr_real c e)
unfolding fr_real abs N lib.Ieee.fits
fr_real_any nan e f i = inl (facing-nan (index_from nan e))
fr_real_any (inf s) e f i = facing_any (inf false) (index_from (inf s) e) (inl refl) (index_from_lem (inf s) e i)
fr_real_any (fin false m d) e f i =
    facing_any (fin false m d) (index_from (fin false m d) e) (inr ((tt, f), refl)) (index_from_lem (fin false m d) e i)
fr_real_any (fin true zero d) e f i =
    facing_any (fin false zero d) (index_from (fin true zero d) e) (inr ((tt, f), refl)) (index_from_lem (fin true zero d) e i)
fr_real_any (fin true (suc m) d) e f i =
    facing_any (fin false (suc m) d) (index_from (fin true (suc m) d) e) (inr ((tt, f), refl)) (index_from_lem (fin true (suc m) d) e i)

pub fresnel_any : (c e k : Float) → T (fits B c) → Index e → T (eq k f0) → NanOrShare (fresnel c e k)
fresnel_any c e k f i z = subst (λ (F : Float). NanOrShare F) (sym (fresnel_real c e k i z)) (fr_real_any c e f i)
