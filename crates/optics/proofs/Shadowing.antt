-- Masking and shadowing: Λ of a direction with finite parts is not negative, or the infinity, so it is never a NaN; and the weight
-- G / G1 of a bounce is from 0 to 1.
-- Proved: `lambda_not_below` for a direction of parts of at most `reach`, which those of Glass are; `weight-share` for two such
-- directions and any normal, so on glass and on metal. The tangent's square is a quotient of two values that are not negative, or
-- 1 / 0; the clamped cosines of the azimuth are from -1 to 1.
use Rattle.std.proofs.Common.{◌≡◌, refl, sym, ap, ◌∙◌, subst, ◌⊎◌, inl, inr, [], ◌∷◌, Bool, true, false, not, ◌||◌, cond, true≢false, ℕ, zero, suc, ◌+◌, ◌-◌, ◌*◌, ◌≤◌, ◌<◌, zero-le, le_refl, le_trans, le_of_eq, lt_of_le_of_lt, lt_of_lt_of_le, lt_irrefl, not-le_of_lt, mul-le-mul_right, mul-le-mul_left, mul-le-mul, mul-pos, zero-lt-suc, arith, T, eqb, eqb→eq, lit≤, lit<, T_not, Float}
use mathlib.Core.Bool.{beq}
use lib.Ieee.{nan, inf, fin, Format, binary64, unlike, up, down, level, neg, add, sub, div, le, lt, eq, is_nan, fits}
use lib.Ieee.Fits.{and_i, eq→eqb, add-fits, mul-fits, div-fits, sub-fits}
use lib.Ieee.Scale.{finite}
use Rattle.floats.proofs.Rounding.{rnd, below_or_from}
use Rattle.floats.proofs.Rounding.Units.{U, O, U_pos, U_O, Is, is_of, mag, either, units_pos, zero_units}
use Rattle.floats.proofs.Rounding.NonNegative.{Ext, Fine, ext_le, finite_ext, nil_ext, unit_ext, mul_ext, div_ext, sub-fine, add_ext, fine_under, U_held, rnd-ge, rnd-le, fine_pos, ext_pos, unit_fine}
use Rattle.floats.proofs.Rounding.Monotone.{size_of, recip-le, ratio}
use Rattle.floats.proofs.Rounding.Error.{Fin, P, N}
use Rattle.floats.proofs.square_root.WholeRoot.{RootErr}
use Rattle.floats.proofs.Rounding.Expression.{fv, ◌+ᶠ◌, ◌-ᶠ◌, ◌*ᶠ◌, mg, tame, closed}
use Rattle.numbers.proofs.vec3.UnitVector.{sq, sq_ext}
use Rattle.floats.specs.Float.{◌⊕◌, ◌⊖◌, ◌⊗◌, ◌⊘◌, f0, f1, f2, f_1, max, clamp, is_infinite, powi2}
use Rattle.floats.specs.SquareRoot.{sqrt, square_root}
use Rattle.numbers.specs.SphericalUtils.{cos2_theta, sin2_theta, tan2_theta, sin_theta, cos_phi, sin_phi}
use Rattle.numbers.specs.declared.vec2.Vec2.{Vec2}
use Rattle.numbers.specs.declared.vec3.Vec3.{Vec3}
use Rattle.optics.specs.Facets.{alpha2, lambda_of, lambda, chi_pass, masked, g1, g, g_over_g1}
use Rattle.floats.proofs.Rounding.Sizes.{Upto, Held, held_power, Number, div-number, widen, expression, f0_upto, f1_upto, f_1_upto, f2_units, upto_one, not_neg, nlt_parts, ext_N, NonNeg, max-zero, root_upto, fine_N, Pos, pos_of}
use Rattle.numbers.proofs.vec3.Span.{Span}
use Rattle.floats.proofs.square_root.RootOrZero.{rooted}
use Rattle.floats.proofs.Rounding.Shares.{Share, f0-share}
use Rattle.optics.proofs.SampledNormal.{Rough, rough_x, rough_y}
use Rattle.optics.proofs.Fresnel.{reach_bits, reach}

abbrev B : Format
B = binary64

-- not negative, of any size, or the infinity
abbrev FromZero : Float → Type 0
FromZero x = (a : ℕ) × Ext x a

-- ---- a clamped number is from -1 to 1
clamp_upto : (q : Float) → T (fits B q) → Number q → Upto 1 (clamp f_1 f1 q)
unfolding clamp is_nan lt
clamp_upto nan f t = absurd t
clamp_upto (inf true) f t = f_1_upto
clamp_upto (inf false) f t = f1_upto
clamp_upto (fin s m e) f t =
    go (lt q f_1) (nlt_parts q f_1 (tt, f) f_1_upto.fin) (lt f1 q) (nlt_parts f1 q f1_upto.fin (tt, f))
  where
    q : Float
    q = fin s m e

    go : (a : Bool) → (T (not a) → P f_1 + N q ≤ P q + N f_1) → (b : Bool) → (T (not b) → P q + N f1 ≤ P f1 + N q)
        → Upto 1 (cond a f_1 (cond b f1 q))
    go true low b high = f_1_upto
    go false low true high = f1_upto
    go false low false high = upto_one q (tt, f) (low tt) (high tt)

-- what does not compare equal to 0 has units
neq_zero : (x : Float) → Fin x → T (not (eq x f0)) → 0 < mag x
unfolding eq
neq_zero nan f t = absurd f.0
neq_zero (inf s) f t = absurd f.0
neq_zero (fin s zero e) f t =
    absurd (T_not (level s a false b) t (and_i (eqb a b) (beq s false || eqb a 0) (eq→eqb (z1 (up e) (down e))) is_zero))
  where
    a : ℕ
    a = 0 * up e * 1

    b : ℕ
    b = 0 * 1 * down e

    z1 : (a d : ℕ) → 0 * a * 1 ≡ 0 * 1 * d
    z1 a d = omega arith

    z2 : (a : ℕ) → 0 * a * 1 ≡ 0
    z2 a = omega arith

    is_zero : T (beq s false || eqb a 0)
    is_zero = either (beq s false) (eqb a 0) (inr (eq→eqb (z2 (up e))))
neq_zero (fin s (suc m) e) f t = units_pos m (mag (fin s (suc m) e)) e (is_of (fin s (suc m) e) tt f.1).0.1

-- ---- the angles of a direction with parts of at most `reach`
abbrev wide : ℕ
wide = 2 * (reach * reach)

reach-square : Held (reach * reach)
reach-square = held_power (2 * reach_bits) (lit≤ tt)

cos2_pos : (w : Vec3) → Upto reach w.z → Pos (cos2_theta w) (sq (mag w.z))
unfolding cos2_theta
cos2_pos w h =
    let a = mag w.z in
    let high = le_trans (mul-le-mul_right U (mul-le-mul h.size h.size)) (le_of_eq (re U)) in
    let top = rnd-le (reach * reach * U) (a * a * U) (U * U) (mul-pos U_pos U_pos) reach-square.0 high in
    pos_of (w.z ⊗ w.z) (sq a) (mul-fits B w.z w.z) (sq_ext w.z h.fin) (lt_of_le_of_lt top reach-square.1)
  where
    re : (u : ℕ) → reach * u * (reach * u) * u ≡ reach * reach * u * (u * u)
    re u = omega arith

gap_upto : (w : Vec3) → Upto reach w.z → Upto wide (f1 ⊖ cos2_theta w)
unfolding closed tame mg cos2_theta
gap_upto w h = expression wide (f1 ∷ w.z ∷ []) (1 ∷ reach ∷ []) (fv 0 -ᶠ fv 1 *ᶠ fv 1) (f1_upto, (h, tt)) tt tt (lit≤ tt)

sin2_nn : (w : Vec3) → Upto reach w.z → NonNeg wide (sin2_theta w)
unfolding sin2_theta
sin2_nn w h = max-zero wide (f1 ⊖ cos2_theta w) (gap_upto w h)

sin_upto : (w : Vec3) → Upto reach w.z → Upto (2 * wide + 3) (sin_theta w)
unfolding sin_theta
sin_upto w h = let s = sin2_nn w h in root_upto wide (sin2_theta w) s.up s.nn0

-- tan² is not negative, or it is infinite
abbrev Tan : Vec3 → Type 0
Tan w = FromZero (tan2_theta w) ⊎ T (is_infinite (tan2_theta w))

zero-div : (x y : Float) (n : ℕ) → Is x false n → 0 < n → Fin y → mag y ≡ 0 → T (is_infinite (x ⊘ y))
unfolding div is_infinite
zero-div nan y n i p f q = absurd i
zero-div (inf s) y n i p f q = absurd i
zero-div (fin true m e) y n i p f q = absurd (true≢false i.0)
zero-div (fin false zero e) y n i p f q = absurd (zero_units n e p i.1)
zero-div (fin false (suc m) e) nan n i p f q = absurd f.0
zero-div (fin false (suc m) e) (inf s) n i p f q = absurd f.0
zero-div (fin false (suc m) e) (fin t zero d) n i p f q = go (eqb (suc m) 0) (eqb→eq (suc m) 0)
  where
    go : (b : Bool) → (T b → suc m ≡ 0) → T (is_infinite (cond b nan (inf (unlike false t))))
    go true h = absurd (lt_irrefl 0 (subst (λ (z : ℕ). 0 < z) (h tt) (zero-lt-suc m)))
    go false h = tt
zero-div (fin false (suc m) e) (fin t (suc k) d) n i p f q =
    let some = units_pos k (mag (fin t (suc k) d)) d (is_of (fin t (suc k) d) tt f.1).0.1 in
    absurd (lt_irrefl 0 (subst (λ (z : ℕ). 0 < z) q some))

-- where cos² is 0, sin² is 1
sin2_is_one : (w : Vec3) → Pos (cos2_theta w) (sq (mag w.z)) → mag (cos2_theta w) ≡ 0 → Is (sin2_theta w) false U
unfolding sin2_theta
sin2_is_one w c m0 =
    let c2 = cos2_theta w in
    let d = f1 ⊖ c2 in
    let fine-c = fine_N c2 c.fin c.zero_N in
    let e : Ext d (rnd 53 (U - mag c2) 1) = sub-fine f1 c2 U (mag c2) unit_fine fine-c (le_trans (le_of_eq m0) zero-le) in
    let whole = ap (λ (n : ℕ). rnd 53 (U - n) 1) m0 ∙ ap (λ (n : ℕ). rnd 53 n 1) (omega arith) ∙ U_held.0 in
    let e' : Ext d U = subst (λ (n : ℕ). Ext d n) whole e in
    let i : Is d false U = fine_pos d U (fine_under d U e' U_O) U_pos in
    subst (λ (x : Float). Is x false U) (sym (rooted d U (sub-fits B f1 c2) i U_pos U_O).kept) i

tan_of : (w : Vec3) → Upto reach w.z → Tan w
unfolding tan2_theta
tan_of w h = go (below_or_from 0 (mag c2))
  where
    c2 : Float
    c2 = cos2_theta w

    s2 : Float
    s2 = sin2_theta w

    c : Pos c2 (sq (mag w.z))
    c = cos2_pos w h

    s : NonNeg wide s2
    s = sin2_nn w h

    none : (n : ℕ) → n ≤ 0 → n ≡ 0
    none n h = omega arith

    go : (0 < mag c2) ⊎ (mag c2 ≤ 0) → FromZero (s2 ⊘ c2) ⊎ T (is_infinite (s2 ⊘ c2))
    go (inl p) =
        let fine-s = fine_N s2 s.up.fin s.nn0 in
        inl (rnd 53 (mag s2 * U) (mag c2), div_ext s2 c2 (mag s2) (mag c2) fine-s (fine_N c2 c.fin c.zero_N) p)
    go (inr z) = let m0 = none (mag c2) z in inr (zero-div s2 c2 U (sin2_is_one w c m0) U_pos c.fin m0)

-- ---- the azimuth
phi : (x : Float) (w : Vec3) (pole : Float) → Fin x → Upto 1 pole → Upto reach w.z
    → Upto 1 (cond (eq (sin_theta w) f0) pole (clamp f_1 f1 (x ⊘ sin_theta w)))
phi x w pole f hp h = go (eq (sin_theta w) f0) (neq_zero (sin_theta w) r.fin)
  where
    r : Upto (2 * wide + 3) (sin_theta w)
    r = sin_upto w h

    q : Float
    q = x ⊘ sin_theta w

    go : (b : Bool) → (T (not b) → 0 < mag (sin_theta w)) → Upto 1 (cond b pole (clamp f_1 f1 q))
    go true p = hp
    go false p = clamp_upto q (div-fits B x (sin_theta w)) (div-number x (sin_theta w) f r.fin (p tt))

cos_phi_upto : (w : Vec3) → Span reach w → Upto 1 (cos_phi w)
unfolding cos_phi
cos_phi_upto w h = phi w.x w f1 h.x.fin f1_upto h.z

sin_phi_upto : (w : Vec3) → Span reach w → Upto 1 (sin_phi w)
unfolding sin_phi
sin_phi_upto w h = phi w.y w f0 h.y.fin (widen 0 1 f0 (lit≤ tt) f0_upto) h.z

-- ---- α²
product_upto : (x y : Float) → Upto 1 x → Upto 1 y → Upto 2 (x ⊗ y)
unfolding closed tame mg
product_upto x y hx hy = expression 2 (x ∷ y ∷ []) (1 ∷ 1 ∷ []) (fv 0 *ᶠ fv 1) (hx, (hy, tt)) tt tt (lit≤ tt)

squares_pos : (x y : Float) → Upto 2 x → Upto 2 y → Fin (x ⊗ x ⊕ y ⊗ y) × (N (x ⊗ x ⊕ y ⊗ y) ≡ 0)
unfolding closed tame mg
squares_pos x y hx hy =
    let t = expression 16 (x ∷ y ∷ []) (2 ∷ 2 ∷ []) (fv 0 *ᶠ fv 0 +ᶠ fv 1 *ᶠ fv 1) (hx, (hy, tt)) tt tt (lit≤ tt) in
    let n = rnd 53 (sq (mag x) + sq (mag y)) 1 in
    let s = x ⊗ x ⊕ y ⊗ y in
    let e = add_ext (x ⊗ x) (y ⊗ y) (sq (mag x)) (sq (mag y)) (sq_ext x hx.fin) (sq_ext y hy.fin) in
    (t.fin, (pos_of s n t.fin.1 e (finite_ext s n e t.fin.0)).zero_N)

alpha2_pos : (a : Vec2) (w : Vec3) → Rough a → Span reach w → Fin (alpha2 a w) × (N (alpha2 a w) ≡ 0)
unfolding alpha2 powi2
alpha2_pos a w r h =
    let x = product_upto a.x (cos_phi w) (rough_x a r).up (cos_phi_upto w h) in
    let y = product_upto a.y (sin_phi w) (rough_y a r).up (sin_phi_upto w h) in
    squares_pos (a.x ⊗ cos_phi w) (a.y ⊗ sin_phi w) x y

-- ---- (√(1 + t) - 1) / 2
root_ge : (n ρ : ℕ) → RootErr n ρ → U ≤ n → U ≤ ρ
root_ge n ρ e h =
    let R-ge = ge-R e.R (lt_of_le_of_lt (mul-le-mul_right U h) e.high) in
    let low = le_trans (le_of_eq (re U)) (mul-le-mul_right U (le_trans (mul-le-mul_left 2 R-ge) e.cut.0)) in
    le_trans (rnd-ge U (e.m * U) (2 * U) (mul-pos (lit< tt) U_pos) U_held.0 low) (le_of_eq (sym e.exact))
  where
    re : (u : ℕ) → u * (2 * u) ≡ 2 * u * u
    re u = omega arith

    ge-R : (R : ℕ) → U * U < (R + 1) * (R + 1) → U ≤ R
    ge-R R h = elim (below_or_from R U) [ inl l ↦ (let s : R + 1 ≤ U = omega arith in absurd (not-le_of_lt h (mul-le-mul s s))) | inr k ↦ k ]

inf_grown : (sqrt (max (inf false) f0) ⊖ f1) ⊘ f2 ≡ inf false
unfolding max is_nan square_root sub add neg div lt
inf_grown = refl

two_fine : Fine f2 (2 * U)
two_fine = (false, (refl, f2_units), refl)

grown_ext : (t : Float) (p : ℕ) → Ext t p → FromZero (lambda_of t)
unfolding lambda_of
grown_ext t p e = go (add_ext f1 t U p unit_ext e)
  where
    y : Float
    y = f1 ⊕ t

    n : ℕ
    n = rnd 53 (U + p) 1

    ge : U ≤ n
    ge = rnd-ge U (U + p) 1 (lit< tt) U_held.0 (lin U p)
      where
        lin : (u p : ℕ) → u * 1 ≤ u + p
        lin u p = omega arith

    go : Ext y n → FromZero ((sqrt (max y f0) ⊖ f1) ⊘ f2)
    go (inr h) = (O, inr (le_refl O, ap (λ (z : Float). (sqrt (max z f0) ⊖ f1) ⊘ f2) h.1 ∙ inf_grown))
    go (inl h) =
        let n0 = lt_of_lt_of_le U_pos ge in
        let r = rooted y n (add-fits B f1 t) (fine_pos y n h.1 n0) n0 h.0 in
        let x = sqrt y in
        let ρ = mag x in
        let held = (is_of x r.fin.0 r.fin.1).1 in
        let δ = rnd 53 (ρ - U) 1 in
        let d : Ext (x ⊖ f1) δ = sub-fine x f1 ρ U (false, r.is, refl) unit_fine (root_ge n ρ r.err ge) in
        let dO : δ < O = lt_of_le_of_lt (rnd-le ρ (ρ - U) 1 (lit< tt) held.0 (less ρ U)) held.1 in
        rw r.kept (rnd 53 (δ * U) (2 * U), div_ext (x ⊖ f1) f2 δ (2 * U) (fine_under (x ⊖ f1) δ d dO) two_fine (mul-pos (lit< tt) U_pos))
      where
        less : (r u : ℕ) → r - u ≤ r * 1
        less r u = omega arith

-- ---- Λ
inf_yes : (x : Float) → x ≡ inf false → T (is_infinite x)
unfolding is_infinite
inf_yes x q = subst (λ (z : Float). T (is_infinite z)) (sym q) tt

lambda_ext : (a : Vec2) (w : Vec3) → Rough a → Span reach w → FromZero (lambda a w)
unfolding lambda
lambda_ext a w r h = go (is_infinite (tan2_theta w)) refl (tan_of w h.z)
  where
    α² : Float
    α² = alpha2 a w

    tan² : Float
    tan² = tan2_theta w

    p : Fin α² × (N α² ≡ 0)
    p = alpha2_pos a w r h

    last : (t : ℕ) → Ext tan² t → is_infinite tan² ≡ false → FromZero (lambda_of (α² ⊗ tan²))
    last t (inr q) e = absurd (subst (λ (b : Bool). T b) e (inf_yes tan² q.1))
    last t (inl q) e =
        let m = mag α² in
        grown_ext (α² ⊗ tan²) (rnd 53 (m * t * U) (U * U)) (mul_ext α² tan² m t (fine_N α² p.0 p.1) q.1)

    go : (b : Bool) → is_infinite tan² ≡ b → Tan w → FromZero (cond b f0 (lambda_of (α² ⊗ tan²)))
    go true e t = (0, nil_ext)
    go false e (inr t) = absurd (subst (λ (b : Bool). T b) e t)
    go false e (inl q) = last q.0 q.1 e

pub lambda-fits : (a : Vec2) (w : Vec3) → T (fits B (lambda a w))
unfolding lambda lambda_of lib.Ieee.fits
lambda-fits a w = go (is_infinite (tan2_theta w))
  where
    t : Float
    t = alpha2 a w ⊗ tan2_theta w

    go : (b : Bool) → T (fits B (cond b f0 (lambda_of t)))
    go true = tt
    go false = div-fits B (sqrt (max (f1 ⊕ t) f0) ⊖ f1) f2

pub lambda_not_below : (a : Vec2) (w : Vec3) → Rough a → Span reach w → T (le f0 (lambda a w))
lambda_not_below a w r h = let e = lambda_ext a w r h in ext_le f0 (lambda a w) 0 e.0 nil_ext e.1 zero-le

-- ---- the weight
-- not below 0 and not 0
above_zero : (x : Float) → Fin x → T (le f0 x) → T (not (eq x f0)) → T (lt f0 x)
above_zero x f low t = ext_pos x (mag x) (ext_N x f (not_neg x f low)) (neq_zero x f t)

zero-eq : eq f0 f0 ≡ true
unfolding eq
zero-eq = refl

recip : (s : Float) → T (fits B s) → T (le f0 s) → T (finite (f1 ⊘ (f1 ⊕ s))) × T (le f0 (f1 ⊘ (f1 ⊕ s)))
recip s f low =
    let a = size_of s f low in
    let n = rnd 53 (U + a.0) 1 in
    let h = recip-le (f1 ⊕ s) n (add_ext f1 s U a.0 unit_ext a.1) (rnd-ge U (U + a.0) 1 (lit< tt) U_held.0 (omega arith)) in
    (h.0, h.1)

pub weight-share : (a : Vec2) (wo wi wh : Vec3) → Rough a → Span reach wo → Span reach wi → Share (g_over_g1 a wo wi wh)
unfolding g_over_g1 g1 g masked
weight-share a wo wi wh r ho hi = seen (chi_pass wo wh)
  where
    s : Float
    s = lambda a wo

    t : Float
    t = lambda a wi

    fs : T (fits B s)
    fs = lambda-fits a wo

    ft : T (fits B t)
    ft = lambda-fits a wi

    s0 : T (le f0 s)
    s0 = lambda_not_below a wo r ho

    t0 : T (le f0 t)
    t0 = lambda_not_below a wi r hi

    γ : Float
    γ = f1 ⊘ (f1 ⊕ s ⊕ t)

    γ₁ : Float
    γ₁ = f1 ⊘ (f1 ⊕ s)

    above : T (not (eq γ₁ f0)) → T (lt f0 γ₁)
    above n = let h = recip s fs s0 in above_zero γ₁ (h.0, div-fits B f1 (f1 ⊕ s)) h.1 n

    go : (b : Bool) → (T (not b) → T (lt f0 γ₁)) → Share (cond b f0 (γ ⊘ γ₁))
    go true p = f0-share
    go false p = ratio s t fs ft s0 t0 (p tt)

    seen : (chi : Bool) → Share (cond (eq (cond chi γ₁ f0) f0) f0 (cond chi γ f0 ⊘ cond chi γ₁ f0))
    seen true = go (eq γ₁ f0) above
    seen false = subst (λ (b : Bool). Share (cond b f0 (f0 ⊘ f0))) (sym zero-eq) f0-share
