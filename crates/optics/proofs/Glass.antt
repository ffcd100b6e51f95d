-- A bounce on glass, and the directions of one on metal, at a local direction `Local` and a facet's normal `Unitary`: the sampled
-- normal or Z.
-- Proved: the share F is finite and from 0 to 1 (`glass-share`); F and 1 - F, with 1 - F from 0 to 1, add up to 1 exactly, the
-- sampler's quotient F / (F + (1 - F)) is F, and its test is u < F (`shares_of`); what the samplers give is never total reflection,
-- and a direction of theirs has finite parts (`glass-outcome`, `metal-outcome`; `glass_never_total`,
-- `glass-direction`). Where `refract` would meet total reflection F is 1, to the last bit the same computation (`total-is_one`), so
-- that u < 1 takes the mirrored branch.
use Rattle.std.proofs.Common.{◌≡◌, refl, sym, ap, ◌∙◌, subst, [], ◌∷◌, Bool, true, false, cond, ℕ, ◌+◌, ◌*◌, ◌≤◌, ◌<◌, le_trans, le_of_eq, lt_of_le_of_lt, mul-le-mul_right, le_of_mul-le-mul_right, mul_comm, mul_assoc, mul-le-mul_left, arith, T, lit≤, lit<, Float}
use lib.Ieee.{fin, Format, binary64, unlike, neg, lt, eq, fits}
use lib.Ieee.Fits.{add-fits, div-fits}
use Rattle.floats.proofs.Rounding.{rnd}
use Rattle.floats.proofs.Rounding.Units.{U, O, U_pos, Is, is_of, sign, mag, div_is, round_units, rnd_U, unique}
use Rattle.floats.proofs.Rounding.NonNegative.{unit_is}
use Rattle.floats.proofs.Rounding.Shares.{shares, Share}
use Rattle.floats.proofs.Rounding.Error.{Fin, M/2}
use Rattle.floats.proofs.Rounding.Expression.{fv, ◌+ᶠ◌, ◌-ᶠ◌, ◌*ᶠ◌, mg, tame, closed}
use Rattle.numbers.proofs.dense_spectrum.Interpolation.{Index, index_bits, index_most}
use Rattle.numbers.proofs.vec3.UnitVector.{norm, k46, sum3, sum3_err, dot_ext, k51, twice51, room_O}
use Rattle.floats.specs.Float.{◌⊕◌, ◌⊖◌, ◌⊗◌, ◌⊘◌, f0, f1, f2, abs}
use Rattle.numbers.specs.Vec3.{vec3, add, sub, float_mul, div_float, negate, dot, length_squared, project_onto}
use Rattle.numbers.specs.SphericalUtils.{same_hemisphere}
use Rattle.numbers.specs.declared.vec2.Vec2.{Vec2}
use Rattle.numbers.specs.declared.vec3.Vec3.{Vec3}
use Rattle.optics.specs.Facets.{is_delta}
use Rattle.optics.specs.Fresnel.{index_from, sin2_i, is_total, cos_i, mean_square, unpolarized, fr_facing, fr_real, fr_complex, fr_complex_facing, fresnel, f_at}
use Rattle.optics.specs.Bxdf.{direction, none, total, mirrored, reflect, bent, across_only, refract_facing, refract, Scattered, scattered, lost, totally, branch, conductor_from, rest, reflects, dielectric_from}
use Rattle.optics.proofs.Cosine.{dot_comm, sin2_abs, sin2_neg}
use Rattle.floats.proofs.Rounding.Sizes.{Upto, widen, expression, f2_upto, neg_upto, held_power, divide, pos_of}
use Rattle.numbers.proofs.vec3.Span.{Span, widen3, negate_span}
use Rattle.optics.proofs.SampledNormal.{Unitary, unit_span, Local, local_span}
use Rattle.optics.proofs.Fresnel.{index_inverse, sin2_upto, inner_most, inner_upto, reach, fresnel_real, fresnel-share}

abbrev B : Format
B = binary64

-- ---- the cosine, from either side
dot_upto : (a b : Vec3) → Span 8 a → Span 2 b → Upto 64 (dot a b)
unfolding closed tame mg dot
dot_upto a b h k =
    expression 64 (a.x ∷ a.y ∷ a.z ∷ b.x ∷ b.y ∷ b.z ∷ []) (8 ∷ 8 ∷ 8 ∷ 2 ∷ 2 ∷ 2 ∷ []) (fv 0 *ᶠ fv 3 +ᶠ fv 1 *ᶠ fv 4 +ᶠ fv 2 *ᶠ fv 5)
    (h.x, (h.y, (h.z, (k.x, (k.y, (k.z, tt)))))) tt tt (lit≤ tt)

pub cosine_upto : (wo wh : Vec3) → Local wo → Unitary wh → Upto 64 (dot wo wh)
cosine_upto wo wh h k = dot_upto wo wh (local_span wo h) (unit_span wh k)

turned_upto : (wo wh : Vec3) → Local wo → Unitary wh → Upto 64 (dot wh wo)
turned_upto wo wh h k = subst (λ (c : Float). Upto 64 c) (dot_comm wo wh) (cosine_upto wo wh h k)

-- ---- the share F
pub glass-share : (wo wh : Vec3) (eta k : Float) → Local wo → Unitary wh → Index eta → T (eq k f0) → Share (f_at wo wh eta k)
unfolding f_at
glass-share wo wh eta k h u i z = fresnel-share (dot wo wh) eta k (cosine_upto wo wh h u) i z

facing-fits : (c e : Float) → T (fits B (fr_facing c e))
unfolding fr_facing unpolarized mean_square lib.Ieee.fits
facing-fits c e = go (is_total (sin2_i c e))
  where
    go : (b : Bool) → T (fits B (cond b f1 (unpolarized e c (cos_i (sin2_i c e)))))
    go true = tt
    go false = div-fits B _ f2

complex-fits : (c e k : Float) → T (fits B (fr_complex c e k))
unfolding fr_complex fr_complex_facing
complex-fits c e k = div-fits B _ f2

pub share-fits : (wo wh : Vec3) (eta k : Float) → T (fits B (f_at wo wh eta k))
unfolding f_at fresnel fr_real lib.Ieee.fits
share-fits wo wh eta k = go (eq k f0) (eq eta f0)
  where
    c : Float
    c = dot wo wh

    go : (b d : Bool) → T (fits B (cond b (cond d f0 (fr_real c eta)) (fr_complex c eta k)))
    go true true = tt
    go true false = facing-fits (abs c) (index_from c eta)
    go false d = complex-fits c eta k

-- ---- F and the rest
unlike_false : (s : Bool) → unlike s false ≡ s
unlike_false false = refl
unlike_false true = refl

pub div_one : (x : Float) → Fin x → x ⊘ f1 ≡ x
div_one x f =
    let i = is_of x f.0 f.1 in
    let a = mag x in
    let s = sign x in
    let q = x ⊘ f1 in
    let r = rnd 53 (a * U) U in
    let e : r ≡ a = rnd_U a ∙ i.1.0 in
    let rounded = round_units (unlike s false) a U (subst (λ (z : ℕ). z < O) (sym e) i.1.1) in
    let opened = div_is x f1 s false a U i.0 unit_is U_pos in
    let k : Is q (unlike s false) r = subst (λ (z : Float). Is z (unlike s false) r) (sym opened) rounded in
    let k' : Is q s a = subst (λ (b : Bool). Is q b a) (unlike_false s) (subst (λ (n : ℕ). Is q (unlike s false) n) e k) in
    unique q x s a (div-fits B x f1) f.1 k' i.0

-- the shares of a glass bounce
pub record Shares (F : Float) : Type 0 where
  pub first : Share F
  pub second : Share (rest F)
  pub whole : F ⊕ rest F ≡ f1
  pub quotient : F ⊘ (F ⊕ rest F) ≡ F
  pub test : (u : Float) → reflects u F ≡ lt u F

pub shares_of : (F : Float) → T (fits B F) → Share F → Shares F
unfolding rest reflects
shares_of F f h =
    let s = shares F f h.1 h.2 in
    let quotient = ap (λ (z : Float). F ⊘ z) s.3 ∙ div_one F (h.0, f) in
    record {
      first = h;
      second = (s.0, s.1, s.2);
      whole = s.3;
      quotient = quotient;
      test = λ (u : Float). ap (λ (q : Float). lt u q) quotient;
    }

pub glass-shares : (wo wh : Vec3) (eta k : Float) → Local wo → Unitary wh → Index eta → T (eq k f0) → Shares (f_at wo wh eta k)
glass-shares wo wh eta k h u i z = shares_of (f_at wo wh eta k) (share-fits wo wh eta k) (glass-share wo wh eta k h u i z)

-- ---- the mirrored direction
low_norm : 1024 * (M/2 * U) * 2 ≤ U * U
unfolding U
low_norm = lit≤ tt

pub dot-fits : (v w : Vec3) → T (fits B (dot v w))
unfolding dot
dot-fits v w = add-fits B (v.x ⊗ w.x ⊕ v.y ⊗ w.y) (v.z ⊗ w.z)

-- n · n is away from 0
self_dot : (n : Vec3) → Unitary n → Fin (dot n n) × (U ≤ 16384 * mag (dot n n))
self_dot n h =
    let a = mag n.x in
    let b = mag n.y in
    let c = mag n.z in
    let D = norm a b c in
    let s = sum3 a b c in
    let lo : U * U ≤ 2 * D = omega arith in
    let e = sum3_err a b c (le_of_mul-le-mul_right {k = 2} (le_trans low_norm (le_trans lo (le_of_eq (mul_comm 2 D)))) (lit< tt)) in
    let hi : s * U ≤ 12 * U * U =
    le_trans (lin2 (s * U) D (U * U) e.0 (lin3 D (U * U) h.one.0)) (le_of_eq (sym (mul_assoc 12 U U))) in
    let top = le_trans (le_of_mul-le-mul_right {k = U} hi U_pos) (mul-le-mul_right U (lit≤ {m = 12} {n = 2305843009213693952} tt)) in
    let p = pos_of (dot n n) s (dot-fits n n) (dot_ext n h.ux.fin h.uy.fin h.uz.fin) (lt_of_le_of_lt top room_O) in
    let low = le_trans (lin4 (s * U) D e.1) (le_of_eq (sym (mul_assoc 16384 s U))) in
    let away = le_of_mul-le-mul_right {k = U} (le_trans lo low) U_pos in
    (p.fin, subst (λ (z : ℕ). U ≤ 16384 * z) (sym p.is) away)
  where
    lin2 : (w D v : ℕ) → k51 * w ≤ k51 * D + D → D ≤ 2 * v → w ≤ 12 * v
    lin2 w D v a b = le_trans (twice51 w D a) (le_trans (mul-le-mul_left 2 b) (omega arith))

    lin3 : (D v : ℕ) → k46 * D ≤ k46 * v + v → D ≤ 2 * v
    lin3 D v h = omega arith

    lin4 : (w D : ℕ) → k51 * D ≤ k51 * w + D → 2 * D ≤ 16384 * w
    lin4 w D h = omega arith

-- one part m of the normal, v of wo, and the cosine c; s is n · n
mirror_part : (m c s v : Float) → Upto 2 m → Upto 64 c → Fin s → U ≤ 16384 * mag s → Upto 8 v → Upto reach (f2 ⊗ (m ⊗ c ⊘ s) ⊖ v)
unfolding closed tame mg
mirror_part m c s v hm hc fs hs hv =
    let p = expression 8192 (m ∷ c ∷ []) (2 ∷ 64 ∷ []) (fv 0 *ᶠ fv 1) (hm, (hc, tt)) tt tt (lit≤ tt) in
    let q = divide 8192 16384 (m ⊗ c) s (held_power 27 (lit≤ tt)) p fs hs in
    expression reach (f2 ∷ m ⊗ c ⊘ s ∷ v ∷ []) (2 ∷ 8192 * 16384 ∷ 8 ∷ []) (fv 0 *ᶠ fv 1 -ᶠ fv 2) (f2_upto, (q, (hv, tt))) tt tt (lit≤ tt)

pub mirror_span : (wo n : Vec3) → Local wo → Unitary n → Span reach (mirrored wo n)
unfolding mirrored sub float_mul project_onto div_float length_squared
mirror_span wo n h u =
    let c = dot wo n in
    let hc = cosine_upto wo n h u in
    let s = dot n n in
    let hs = self_dot n u in
    let l = local_span wo h in
    record {
      x = mirror_part n.x c s wo.x u.ux hc hs.0 hs.1 l.x;
      y = mirror_part n.y c s wo.y u.uy hc hs.0 hs.1 l.y;
      z = mirror_part n.z c s wo.z u.uz hc hs.0 hs.1 l.z;
    }

-- ---- the bent direction
-- a value of at most 8192 by the index
by_index : (x e : Float) → Upto 8192 x → Index e → Upto (8192 * index_most) (x ⊘ e)
by_index x e h i = divide 8192 index_most x e (held_power (13 + index_bits) (lit≤ tt)) h i.fin i.low

bend_part : (c e i v n : Float) → Upto 64 c → Index e → Upto inner_most i → Upto 8 v → Upto 2 n
    → Upto reach (neg v ⊘ e ⊕ (c ⊘ e ⊖ i) ⊗ n)
unfolding closed tame mg
bend_part c e i v n hc he hi hv hn =
    let a = by_index (neg v) e (widen 8 8192 (neg v) (lit≤ tt) (neg_upto 8 v hv)) he in
    let b = by_index c e (widen 64 8192 c (lit≤ tt) hc) he in
    expression reach (neg v ⊘ e ∷ c ⊘ e ∷ i ∷ n ∷ []) (8192 * index_most ∷ 8192 * index_most ∷ inner_most ∷ 2 ∷ []) (fv 0 +ᶠ (fv 1 -ᶠ fv 2) *ᶠ fv 3)
    (a, (b, (hi, (hn, tt)))) tt tt (lit≤ tt)

bent_span : (e c i : Float) (wo n : Vec3) → Index e → Upto 64 c → Upto inner_most i → Span 8 wo → Span 2 n
    → Span reach (bent e c i wo n)
unfolding bent add div_float negate float_mul
bent_span e c i wo n he hc hi hw hn = record {
  x = bend_part c e i wo.x n.x hc he hi hw.x hn.x;
  y = bend_part c e i wo.y n.y hc he hi hw.y hn.y;
  z = bend_part c e i wo.z n.z hc he hi hw.z hn.z;
}

-- ---- where `refract` meets total reflection, F is 1
-- the cosine on its side
abbrev facing : Bool → Float → Float
facing b c = cond b (neg c) c

abbrev index : Bool → Float → Float
index b e = cond b (f1 ⊘ e) e

-- the sine's square is the same to the last bit
same_sin2 : (b : Bool) (c e : Float) → sin2_i (facing b c) e ≡ sin2_i (abs c) e
same_sin2 true c e = sin2_neg c e ∙ sym (sin2_abs c e)
same_sin2 false c e = sym (sin2_abs c e)

pub total-is_one : (c eta : Float) → let b = lt c f0 in T (is_total (sin2_i (facing b c) (index b eta))) → fr_real c eta ≡ f1
unfolding fr_real fr_facing index_from
total-is_one c eta t = go (is_total (sin2_i (abs c) e)) (subst (λ (s : Float). T (is_total s)) (same_sin2 (lt c f0) c e) t)
  where
    e : Float
    e = index (lt c f0) eta

    go : (b : Bool) → T b → cond b f1 (unpolarized e (abs c) (cos_i (sin2_i (abs c) e))) ≡ f1
    go true t = refl
    go false t = elim t [ ]

-- ---- what the samplers give: a direction of finite parts of at most `reach`, or none
abbrev pub Outcome : Scattered → Type 0
Outcome (scattered wi reflection) = Span reach wi
Outcome lost = Unit {0}
Outcome totally = ⊥

reflect-outcome : (wo n : Vec3) → Local wo → Unitary n → Outcome (branch true (reflect wo n))
unfolding branch reflect
reflect-outcome wo n h u = go (same_hemisphere (mirrored wo n) wo)
  where
    go : (b : Bool) → Outcome (branch true (cond b (direction (mirrored wo n)) none))
    go true = mirror_span wo n h u
    go false = tt

facing-outcome : (e c : Float) (wo n : Vec3) → Index e → Upto 64 c → Span 8 wo → Span 2 n → (T (is_total (sin2_i c e)) → ⊥)
    → Outcome (branch false (refract_facing e c wo n))
unfolding branch refract_facing across_only
facing-outcome e c wo n he hc hw hn never = go (is_total (sin2_i c e)) never
  where
    i : Float
    i = cos_i (sin2_i c e)

    wi : Vec3
    wi = bent e c i wo n

    across : (b : Bool) → Outcome (branch false (cond b none (direction wi)))
    across true = tt
    across false = bent_span e c i wo n he hc (inner_upto (sin2_i c e) (sin2_upto c e hc he)) hw hn

    go : (b : Bool) → (T b → ⊥) → Outcome (branch false (cond b total (cond (same_hemisphere wi wo) none (direction wi))))
    go true never = absurd (never tt)
    go false never = across (same_hemisphere wi wo)

refract-outcome : (eta : Float) (wo n : Vec3) → Index eta → Local wo → Unitary n → (fr_real (dot wo n) eta ≡ f1 → ⊥)
    → Outcome (branch false (refract eta wo n))
unfolding refract
refract-outcome eta wo n i h u never = go (lt c f0) (λ (t : T (is_total (sin2_i (facing (lt c f0) c) (index (lt c f0) eta)))). never (one t))
  where
    c : Float
    c = dot n wo

    hc : Upto 64 c
    hc = turned_upto wo n h u

    l : Span 8 wo
    l = local_span wo h

    s : Span 2 n
    s = unit_span n u

    one : T (is_total (sin2_i (facing (lt c f0) c) (index (lt c f0) eta))) → fr_real (dot wo n) eta ≡ f1
    one t = ap (λ (d : Float). fr_real d eta) (dot_comm wo n) ∙ total-is_one c eta t

    go : (b : Bool) → (T (is_total (sin2_i (facing b c) (index b eta))) → ⊥)
        → Outcome (branch false (cond b (refract_facing (f1 ⊘ eta) (neg c) wo (negate n)) (refract_facing eta c wo n)))
    go true never = facing-outcome (f1 ⊘ eta) (neg c) wo (negate n) (index_inverse eta i) (neg_upto 64 c hc) l (negate_span 2 n s) never
    go false never = facing-outcome eta c wo n i hc l s never

-- ---- the laws on glass
pub glass-outcome : (eta k u : Float) (wo wh : Vec3) → Index eta → T (eq k f0) → T (lt u f1) → Local wo → Unitary wh
    → Outcome (dielectric_from eta (f_at wo wh eta k) u wo wh)
unfolding dielectric_from f_at
glass-outcome eta k u wo wh i z below h w = go (reflects u F) refl
  where
    F : Float
    F = fresnel (dot wo wh) eta k

    test : reflects u F ≡ lt u F
    test = (glass-shares wo wh eta k h w i z).test u

    passes : reflects u F ≡ false → fr_real (dot wo wh) eta ≡ f1 → ⊥
    passes e one =
        let is_one : F ≡ f1 = fresnel_real (dot wo wh) eta k i z ∙ one in
        let refused : lt u f1 ≡ false = ap (λ (x : Float). lt u x) (sym is_one) ∙ sym test ∙ e in
        subst (λ (b : Bool). T b) refused below

    go : (b : Bool) → reflects u F ≡ b → Outcome (cond b (branch true (reflect wo wh)) (branch false (refract eta wo wh)))
    go true e = reflect-outcome wo wh h w
    go false e = refract-outcome eta wo wh i h w (passes e)

pub glass_never_total : (eta k u : Float) (wo wh : Vec3) → Index eta → T (eq k f0) → T (lt u f1) → Local wo → Unitary wh
    → dielectric_from eta (f_at wo wh eta k) u wo wh ≡ totally → ⊥
glass_never_total eta k u wo wh i z below h w e = subst (λ (s : Scattered). Outcome s) e (glass-outcome eta k u wo wh i z below h w)

pub glass-direction : (eta k u : Float) (wo wh wi : Vec3) (reflection : Bool) → Index eta → T (eq k f0) → T (lt u f1) → Local wo
    → Unitary wh
    → dielectric_from eta (f_at wo wh eta k) u wo wh ≡ scattered wi reflection → Span reach wi
glass-direction eta k u wo wh wi reflection i z below h w e =
    subst (λ (s : Scattered). Outcome s) e (glass-outcome eta k u wo wh i z below h w)

-- ---- the laws on metal
pub metal-outcome : (a : Vec2) (wo wh : Vec3) → Local wo → Unitary wh → Outcome (conductor_from a wo wh)
unfolding conductor_from
metal-outcome a wo wh h w = go (is_delta a)
  where
    l : Span 8 wo
    l = local_span wo h

    m : Vec3
    m = vec3 (neg wo.x) (neg wo.y) wo.z

    turned : Span 8 m
    turned = record { x = neg_upto 8 wo.x l.x; y = neg_upto 8 wo.y l.y; z = l.z }

    go : (b : Bool) → Outcome (cond b (scattered m true) (branch true (reflect wo wh)))
    go true = widen3 8 reach m (lit≤ tt) turned
    go false = reflect-outcome wo wh h w
