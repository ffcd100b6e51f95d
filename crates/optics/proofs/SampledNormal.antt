-- The sampled normal of a microfacet: every step of it is finite, and the normal has length 1 within 2 ^ -46.
-- Proved (`sampled-normal`): for directions that `is_direction` accepts, a roughness that `roughness_holds` accepts, and a disk number
-- and circle pair that the counter accepts, the stretched direction, the tangents, the combined vector and the normal are finite, and
-- the normal is a unit vector, `Unitary`. So is Z (`z_unitary`). Sizes by Sizes; that each length is away from 0 by LocalBasis, by the
-- test against EPSILON, and by the lower bound on z.
use Rattle.std.proofs.Common.{◌≡◌, refl, sym, ap, ◌∙◌, subst, ◌⊎◌, inl, inr, List, [], ◌∷◌, Bool, true, false, not, cond, ◌&&◌, ℕ, suc, ◌+◌, ◌*◌, ◌/◌, ◌^◌, ◌≤◌, ◌<◌, le_trans, le_of_eq, mul-le-mul_right, mul-le-mul_left, mul-le-mul, le_of_mul-le-mul_right, arith, negsuc, T, lit≤, Float}
use lib.Ieee.{nan, inf, fin, Format, binary64, is_nan, neg, le, lt, fits}
use lib.Ieee.Fits.{and_l, and_r}
use Rattle.floats.proofs.Rounding.{Near, below_or_from}
use Rattle.floats.proofs.Rounding.Units.{U, U_pos, mag, le-finite}
use Rattle.floats.proofs.Rounding.NonNegative.{lt-le}
use Rattle.floats.proofs.Rounding.Error.{Fin, P, N, le_parts, neg_parts, sum_mag, unit_fin, one_side}
use Rattle.floats.proofs.Rounding.SignedPoly.{R, ◌⊞◌, ◌⊠◌, inv, nat, va, li, ◌∔◌, ◌⋆◌, minus, vanishes, ab, ab-inv, ab-nat, ab-mul, ab_poly, Q, Bd, sc, bd_unsc, lift}
use Rattle.floats.proofs.Rounding.Expression.{rv, sc0, pow1, pow2, ulp, mul_bd, Fl, fv, ◌+ᶠ◌, ◌-ᶠ◌, ◌*ᶠ◌, pd, ex, mg, er, tame, closed, sound, size-mag}
use Rattle.numbers.proofs.vec3.Direction.{Direction, flip_near, unit_rv}
use Rattle.numbers.proofs.onb.LocalBasis.{Tame, Tame3, Large, local_tame, local_large}
use Rattle.numbers.proofs.vec3.UnitVector.{norm, Room, Unit3, unit_of, k46, twice47}
use Rattle.floats.specs.Float.{◌⊕◌, ◌⊖◌, ◌⊗◌, f0, f1, f_1, max, within, decimal, epsilon}
use Rattle.floats.specs.SquareRoot.{sqrt}
use Rattle.numbers.specs.Vec3.{vec3, X, Z, add, float_mul, negate, cross, normalize}
use Rattle.numbers.specs.Onb.{basis, to_local}
use Rattle.numbers.specs.declared.vec2.Vec2.{Vec2}
use Rattle.numbers.specs.declared.vec3.Vec3.{Vec3}
use Rattle.optics.specs.Surface.{roughness_min, is_roughness, roughness_holds}
use Rattle.optics.specs.Check.{is_random, is_circle_pair}
use Rattle.optics.specs.Sampler.{stretched, upright, viewed, tangent, lerp, disk_x, disk_h, disk_y, disk_z, on_hemisphere, combined, unstretched, sample_normal}
use Rattle.floats.proofs.Rounding.Sizes.{Upto, widen, Sized, limits, vars_of, bd_upto, upto_bd, expression, f0_upto, f1_upto, f1_parts, f0_parts, mag-neg, neg_upto, zero_N, not_neg, in_disk, nlt_parts, lt-zero, root_upto, root_max, half}
use Rattle.numbers.proofs.vec3.Span.{Span}

abbrev B : Format
B = binary64

-- ---- what passes the counter: roughness, disk number and circle pair
pub record Rough (a : Vec2) : Type 0 where
  pub fits_x : T (fits B a.x)
  pub fits_y : T (fits B a.y)
  pub test : T (roughness_holds a)

pub record Disk (disk c s : Float) : Type 0 where
  pub fits_disk : T (fits B disk)
  pub fits_c : T (fits B c)
  pub fits_s : T (fits B s)
  pub number : T (is_random disk)
  pub pair : T (is_circle_pair c s)

-- ---- roughness: from 1e-5 to 1
abbrev least : Float
least = fin false 5902958103587057 (negsuc 68)

min_is : roughness_min ≡ least
unfolding roughness_min decimal
min_is = refl

least-fin : Fin least
unfolding lib.Ieee.fits
least-fin = (tt, tt)

least_is : (U ≤ 131072 * P least) × (N least ≡ 0)
unfolding P N U
least_is = (lit≤ tt, refl)

pub record RoughPart (r : Float) : Type 0 where
  pub up : Upto 1 r
  pub low : U ≤ 131072 * mag r

rough_bounds : (r : Float) → T (is_roughness r) → T (le least r) × T (le r f1)
unfolding is_roughness within
rough_bounds r h =
    let low = and_l (le roughness_min r) (le r f1) h in
    (subst (λ (m : Float). T (le m r)) min_is low, and_r (le roughness_min r) (le r f1) h)

rough_part : (r : Float) → T (fits B r) → T (is_roughness r) → RoughPart r
rough_part r fr h =
    let b = rough_bounds r h in
    let f : Fin r = (le-finite least r f1 tt tt b.0 b.1, fr) in
    let l = le_parts least r least-fin f b.0 in
    let m = le_parts r f1 f (unit_fin false) b.1 in
    let n0 : N r ≡ 0 = zero_N (P r) (N r) (P least) (N least) l least_is.1 (one_side r) in
    let at_most = hi (P r) (N r) (P f1) (N f1) U m f1_parts.0 f1_parts.1 n0 in
    let at_least_lem = lo (P r) (N r) (P least) (N least) U l least_is.0 least_is.1 in
    record {
      up = record { fin = f; size = le_trans (le_of_eq (sym (sum_mag r))) at_most };
      low = subst (λ (z : ℕ). U ≤ 131072 * z) (sum_mag r) at_least_lem;
    }
  where
    hi : (p n a b u : ℕ) → p + b ≤ a + n → a ≡ u → b ≡ 0 → n ≡ 0 → p + n ≤ 1 * u
    hi p n a b u h i j k = omega arith

    lo : (p n a b u : ℕ) → a + n ≤ p + b → u ≤ 131072 * a → b ≡ 0 → u ≤ 131072 * (p + n)
    lo p n a b u h i j = omega arith

pub rough_x : (a : Vec2) → Rough a → RoughPart a.x
unfolding roughness_holds
rough_x a h = rough_part a.x h.fits_x (and_l (is_roughness a.x) (is_roughness a.y) h.test)

pub rough_y : (a : Vec2) → Rough a → RoughPart a.y
unfolding roughness_holds
rough_y a h = rough_part a.y h.fits_y (and_r (is_roughness a.x) (is_roughness a.y) h.test)

-- ---- lengths that are away from 0 and from the overflow
-- at least 2 ^ -39, and at most 2 ^ 29
abbrev Some : ℕ → Type 0
Some a = U ≤ 549755813888 * a

abbrev Few : ℕ → Type 0
Few a = a ≤ 536870912 * U

room_low : (a t : ℕ) → Some a → a * a ≤ t → U * U ≤ 2 ^ 80 * t
room_low a t h g = omega (arith, mul-le-mul h h)

room_high : (a b c : ℕ) → Few a → Few b → Few c → norm a b c ≤ 1152921504606846976 * (U * U)
room_high a b c h k l = omega (arith, mul-le-mul h h, mul-le-mul k k, mul-le-mul l l)

room_of : (a b c : ℕ) → Few a → Few b → Few c → Some a ⊎ (Some b ⊎ Some c) → Room a b c
room_of a b c h k l (inl s) = (room_low a (norm a b c) s (omega arith), room_high a b c h k l)
room_of a b c h k l (inr (inl s)) = (room_low b (norm a b c) s (omega arith), room_high a b c h k l)
room_of a b c h k l (inr (inr s)) = (room_low c (norm a b c) s (omega arith), room_high a b c h k l)

few_of : (k : ℕ) (x : Float) → Upto k x → k ≤ 536870912 → Few (mag x)
few_of k x h g = le_trans h.size (mul-le-mul_right U g)

-- a vector of which one part is away from 0 has a length
length_of : (k : ℕ) (v : Vec3) → k ≤ 536870912 → Span k v → Some (mag v.x) ⊎ (Some (mag v.y) ⊎ Some (mag v.z)) → Unit3 v
length_of k v h s some =
    let few-x = few_of k v.x s.x h in
    let few-y = few_of k v.y s.y h in
    let few-z = few_of k v.z s.z h in
    unit_of v s.x.fin s.y.fin s.z.fin (room_of (mag v.x) (mag v.y) (mag v.z) few-x few-y few-z some)

-- ---- the stretched direction
pub tame_upto : (x : Float) → Tame x → Upto 8 x
tame_upto x t = record { fin = t.fin; size = le_trans (le_of_eq (sym (size-mag x))) t.size }

-- a bound on a product with a roughness
abbrev most : ℕ
most = 8 * Q * (1 * Q) / Q + 1

scaled : (x r : Float) → Upto 8 x → RoughPart r → Upto 9 (x ⊗ r)
scaled x r h k =
    let w = mul_bd x r (8 * Q) (1 * Q) h.fin k.up.fin (upto_bd 8 x h) (upto_bd 1 r k.up) (lit≤ tt) in
    bd_upto 9 (x ⊗ r) (ulp most + most) w.0 w.2 (lit≤ tt)

scaled_low : (x r : Float) → Upto 8 x → RoughPart r → Large x → Some (mag (x ⊗ r))
scaled_low x r h k l =
    let z = x ⊗ r in
    let w = mul_bd x r (8 * Q) (1 * Q) h.fin k.up.fin (upto_bd 8 x h) (upto_bd 1 r k.up) (lit≤ tt) in
    let d = ab (nat U ⊠ rv z ⊞ inv (rv x ⊠ rv r)) in
    let exact : ab (rv x ⊠ rv r) ≡ mag x * mag r =
    ab-mul (rv x) (rv r) ∙ ap (λ (t : ℕ). t * ab (rv r)) (size-mag x) ∙ ap (λ (t : ℕ). mag x * t) (size-mag r) in
    let rounded : ab (nat U ⊠ rv z) ≡ U * mag z =
    ab-mul (nat U) (rv z) ∙ ap (λ (t : ℕ). t * ab (rv z)) (ab-nat U) ∙ ap (λ (t : ℕ). U * t) (size-mag z) in
    let near : mag x * mag r ≤ U * mag z + d = rw (exact, rounded) at (flip_near (nat U ⊠ rv z) (rv x ⊠ rv r)) in
    let large : U * U ≤ 2097152 * (mag x * mag r) =
    le_trans (mul-le-mul (subst (λ (t : ℕ). U ≤ 16 * t) (size-mag x) l) k.low) (le_of_eq (omega arith)) in
    let tiny : Q * d ≤ ulp most * (U * U) = subst (λ (t : ℕ). Q * d ≤ ulp most * t) pow2 w.1 in
    le_of_mul-le-mul_right {k = U} (omega arith) U_pos

some-large : (x : Float) → Large x → Some (mag x)
some-large x l = omega (arith, subst (λ (t : ℕ). U ≤ 16 * t) (size-mag x) l)

-- before it is normalised
abbrev squeezed : Vec2 → Vec3 → Vec3
squeezed a l = vec3 (l.x ⊗ a.x) (l.y ⊗ a.y) l.z

abbrev SomeLarge : Vec3 → Type 0
SomeLarge l = Large l.x ⊎ (Large l.y ⊎ Large l.z)

squeezed_unit : (a : Vec2) (l : Vec3) → Rough a → Tame3 l → SomeLarge l → Unit3 (squeezed a l)
squeezed_unit a l h t large =
    let s : Span 9 (squeezed a l) = record {
      x = scaled l.x a.x ux rx;
      y = scaled l.y a.y uy ry;
      z = widen 8 9 l.z (lit≤ tt) (tame_upto l.z t.2);
    } in
    length_of 9 (squeezed a l) (lit≤ tt) s (go large)
  where
    rx : RoughPart a.x
    rx = rough_x a h

    ry : RoughPart a.y
    ry = rough_y a h

    ux : Upto 8 l.x
    ux = tame_upto l.x t.0

    uy : Upto 8 l.y
    uy = tame_upto l.y t.1

    go : SomeLarge l → Some (mag (l.x ⊗ a.x)) ⊎ (Some (mag (l.y ⊗ a.y)) ⊎ Some (mag l.z))
    go (inl h) = inl (scaled_low l.x a.x ux rx h)
    go (inr (inl h)) = inr (inl (scaled_low l.y a.y uy ry h))
    go (inr (inr h)) = inr (inr (some-large l.z h))

-- ---- a unit vector, as far as is needed
pub record Unitary (v : Vec3) : Type 0 where
  pub ux : Upto 2 v.x
  pub uy : Upto 2 v.y
  pub uz : Upto 2 v.z
  pub one : Near (k46 * norm (mag v.x) (mag v.y) (mag v.z)) (k46 * (U * U)) (U * U)

pub unitary : (v : Vec3) → Unit3 v → Unitary (normalize v)
unitary v h = record {
  ux = record { fin = h.fin_x; size = twice47 (mag (normalize v).x) U h.size_x };
  uy = record { fin = h.fin_y; size = twice47 (mag (normalize v).y) U h.size_y };
  uz = record { fin = h.fin_z; size = twice47 (mag (normalize v).z) U h.size_z };
  one = h.one;
}

pub unit_span : (v : Vec3) → Unitary v → Span 2 v
unit_span v h = record { x = h.ux; y = h.uy; z = h.uz }

pub z_span : Span 2 Z
z_span = record { x = widen 0 2 f0 (lit≤ tt) f0_upto; y = widen 0 2 f0 (lit≤ tt) f0_upto; z = widen 1 2 f1 (lit≤ tt) f1_upto }

z_mags : (mag f0 ≡ 0) × (mag f1 ≡ U)
unfolding U
z_mags = (refl, refl)

pub z_unitary : Unitary Z
z_unitary = record {
  ux = z_span.x;
  uy = z_span.y;
  uz = z_span.z;
  one = rw (z_mags.0, z_mags.1) (omega arith, omega arith);
}

negate_unitary : (v : Vec3) → Unitary v → Unitary (negate v)
unfolding negate
negate_unitary v h = record {
  ux = neg_upto 2 v.x h.ux;
  uy = neg_upto 2 v.y h.uy;
  uz = neg_upto 2 v.z h.uz;
  one = rw (mag-neg v.x, mag-neg v.y, mag-neg v.z) h.one;
}

-- one that points up
pub record Raised (v : Vec3) : Type 0 where
  pub unit : Unitary v
  pub above : N v.z ≡ 0

negated_z : (v : Vec3) → (negate v).z ≡ neg v.z
unfolding negate
negated_z v = refl

raised : (v : Vec3) → Unitary v → Raised (upright v)
unfolding upright
raised v h = go (lt v.z f0) (lt-zero v.z h.uz.fin) (nlt_parts v.z f0 h.uz.fin f0_upto.fin)
  where
    go : (b : Bool) → (T b → P v.z ≡ 0) → (T (not b) → P f0 + N v.z ≤ P v.z + N f0) → Raised (cond b (negate v) v)
    go true f g =
        let above = (neg_parts v.z h.uz.fin).2 ∙ f tt in
        record { unit = negate_unitary v h; above = rw (negated_z v) above }
    go false f g = record { unit = h; above = zero_N (P v.z) (N v.z) (P f0) (N f0) (g tt) f0_parts.1 (one_side v.z) }

-- ---- the first tangent: where 1 - z is not below EPSILON, z is away from 1
eps_fin : Fin epsilon
unfolding lib.Ieee.fits epsilon decimal
eps_fin = (tt, tt)

eps_is : (3 * U ≤ 34359738368 * P epsilon) × (N epsilon ≡ 0) × (mag epsilon ≤ 1 * U)
unfolding P N U epsilon decimal
eps_is = (lit≤ tt, refl, lit≤ tt)

tiny_of : (d k u : ℕ) → Q * d ≤ k * u → k ≤ 16777216 → 1099511627776 * d ≤ u
tiny_of d k u h g = omega (arith, le_trans h (mul-le-mul_right u g))

-- a difference of parts, opened
opened_side : (a b c e f g : ℕ) → a + (e + f) ≤ b + (c + g) + ab ((a, b) ⊞ inv ((c, e) ⊞ inv (f, g)))
unfolding ab ◌⊞◌ inv
opened_side a b c e f g = omega arith

away : (z : Float) → Upto 2 z → N z ≡ 0 → T (not (lt (f1 ⊖ z) epsilon)) → 17179869184 * mag z + U ≤ 17179869184 * U
unfolding closed tame pd ex lift er mg
away z h n t =
    let d = f1 ⊖ z in
    let ρ : List Float = f1 ∷ z ∷ [] in
    let κ : List ℕ = 1 ∷ 2 ∷ [] in
    let s = sound ρ (limits κ) (fv 0 -ᶠ fv 1) (vars_of ρ κ (f1_upto, (h, tt))) tt tt in
    let g = nlt_parts d epsilon s.fin eps_fin t in
    let k = er (limits κ) (fv 0 -ᶠ fv 1) in
    let exact = rv f1 ⊞ inv (rv z) in
    let D = rv d ⊞ inv exact in
    let near : Bd 1 D k = subst (λ (w : R). Bd 1 (w ⊞ inv exact) k) (sc0 (rv d)) s.near in
    let tiny = tiny_of (ab D) k U (subst (λ (w : ℕ). Q * ab D ≤ k * w) pow1 near) (lit≤ tt) in
    last (P d) (N d) (P f1) (N f1) (P z) (N z) (mag z) (P epsilon) (N epsilon) (ab D) U
    (opened_side (P d) (N d) (P f1) (N f1) (P z) (N z)) tiny g f1_parts.0 f1_parts.1 n (sum_mag z) eps_is.0 eps_is.1
  where
    last : (a b c e f g m p q d u : ℕ) → a + (e + f) ≤ b + (c + g) + d → 1099511627776 * d ≤ u → p + b ≤ a + q → c ≡ u → e ≡ 0 → g ≡ 0
        → f + g ≡ m → 3 * u ≤ 34359738368 * p → q ≡ 0 → 17179869184 * m + u ≤ 17179869184 * u
    last a b c e f g m p q d u h₁ h₂ h₃ h₄ h₅ h₆ h₇ h₈ h₉ = omega arith

-- then x or y is not tiny
side_of : (a b m : ℕ) → 17179869184 * m + U ≤ 17179869184 * U → Near (k46 * norm a b m) (k46 * (U * U)) (U * U)
    → (U ≤ 262144 * a) ⊎ (U ≤ 262144 * b)
side_of a b m h n = go (below_or_from (262144 * a) U) (below_or_from (262144 * b) U)
  where
    low : (x y c s : ℕ) → 17179869184 * c + s ≤ 17179869184 * s → k46 * s ≤ k46 * (x + y + c) + s → s ≤ 34359738368 * (x + y)
    low x y c s a b = omega arith

    third : (m u : ℕ) → 17179869184 * m + u ≤ 17179869184 * u → 17179869184 * (m * m) + u * u ≤ 17179869184 * (u * u)
    third m u h = let g = mul-le-mul_right u h in let k = mul-le-mul_left m (le_u m u h) in omega arith
      where
        le_u : (m u : ℕ) → 17179869184 * m + u ≤ 17179869184 * u → m ≤ u
        le_u m u h = omega arith

    sqr : (a u : ℕ) → suc (262144 * a) * suc (262144 * a) ≤ u * u → 68719476736 * (a * a) < u * u
    sqr a u h = omega arith

    no_way : (x y s : ℕ) → s ≤ 34359738368 * (x + y) → 68719476736 * x < s → 68719476736 * y < s → ⊥
    no_way x y s a b c = omega arith

    go : (262144 * a < U) ⊎ (U ≤ 262144 * a) → (262144 * b < U) ⊎ (U ≤ 262144 * b) → (U ≤ 262144 * a) ⊎ (U ≤ 262144 * b)
    go (inr p) q = inl p
    go (inl p) (inr q) = inr q
    go (inl p) (inl q) =
        let both = low (a * a) (b * b) (m * m) (U * U) (third m U h) n.1 in
        absurd (no_way (a * a) (b * b) (U * U) both (sqr a U (mul-le-mul p p)) (sqr b U (mul-le-mul q q)))

-- the cross product with Z is (y, -x, 0), nearly
abbrev five : Vec3 → List Float
five s = s.x ∷ s.y ∷ s.z ∷ f0 ∷ f1 ∷ []

abbrev fives : List ℕ
fives = 2 ∷ 2 ∷ 2 ∷ 0 ∷ 1 ∷ []

unfoldable cx : Fl
cx = fv 1 *ᶠ fv 4 -ᶠ fv 2 *ᶠ fv 3

unfoldable cy : Fl
cy = fv 2 *ᶠ fv 3 -ᶠ fv 0 *ᶠ fv 4

unfoldable cz : Fl
cz = fv 0 *ᶠ fv 3 -ᶠ fv 1 *ᶠ fv 3

five_sized : (s : Vec3) → Unitary s → Sized (five s) fives
five_sized s h = (h.ux, (h.uy, (h.uz, (f0_upto, (f1_upto, tt)))))

keep : (y c d u : ℕ) → u ≤ 262144 * y → y ≤ c + d → 1099511627776 * d ≤ u → u ≤ 549755813888 * c
keep y c d u a b e = omega arith

f0_pair : rv f0 ≡ nat 0
unfolding P N U
f0_pair = refl

-- c is near the signed value y of size m
kept : (c : Float) (y : R) (m k : ℕ) → ab y ≡ m → Bd 1 (rv c ⊞ inv y) k → k ≤ 16777216 → U ≤ 262144 * m → Some (mag c)
kept c y m k e b h l =
    let d = ab (rv c ⊞ inv y) in
    let sizes : m ≤ mag c + d = rw (e, size-mag c) at (flip_near (rv c) y) in
    keep m (mag c) d U l sizes (tiny_of d k U (subst (λ (z : ℕ). Q * d ≤ k * z) pow1 b) h)

cross_x : (s : Vec3) → Unitary s → Upto 3 (cross s Z).x × (U ≤ 262144 * mag s.y → Some (mag (cross s Z).x))
unfolding closed tame mg er pd ex lift sc vanishes cx cross
cross_x s h =
    let t = sound (five s) (limits fives) cx (vars_of (five s) fives (five_sized s h)) tt tt in
    let c = (cross s Z).x in
    let k = er (limits fives) cx in
    let y = rv s.y in
    let b : Bd 2 (nat (U ^ 1) ⊠ rv c ⊞ inv (y ⊠ rv f1 ⊞ inv (rv s.z ⊠ rv f0))) k = t.near in
    let plain = fix (nat (U ^ 1)) (rv f1) (rv f0) (rv c) y (rv s.z) (ap (λ (z : ℕ). nat z) pow1) (unit_rv false) f0_pair in
    let b' : Bd 1 (rv c ⊞ inv y) k = bd_unsc 1 1 (rv c ⊞ inv y) k (subst (λ (z : ℕ). Q * z ≤ k * U ^ 2) plain b) in
    (bd_upto 3 c (mg (limits fives) cx) t.fin t.most (lit≤ tt), kept c y (mag s.y) k (size-mag s.y) b' (lit≤ tt))
  where
    fix : (u o n c y z : R) → u ≡ nat U → o ≡ nat U → n ≡ nat 0 → ab (u ⊠ c ⊞ inv (y ⊠ o ⊞ inv (z ⊠ n))) ≡ ab (u ⊠ (c ⊞ inv y))
    fix u o n c y z p q r =
        let left = va 0 ⋆ va 1 ∔ minus (va 2 ⋆ va 0 ∔ minus (va 3 ⋆ li 0)) in
        rw (p, q, r) (ab_poly (nat U ∷ c ∷ y ∷ z ∷ []) left (va 0 ⋆ (va 1 ∔ minus (va 2))) tt)

cross_y : (s : Vec3) → Unitary s → Upto 3 (cross s Z).y × (U ≤ 262144 * mag s.x → Some (mag (cross s Z).y))
unfolding closed tame mg er pd ex lift sc vanishes cy cross
cross_y s h =
    let t = sound (five s) (limits fives) cy (vars_of (five s) fives (five_sized s h)) tt tt in
    let c = (cross s Z).y in
    let k = er (limits fives) cy in
    let x = rv s.x in
    let b : Bd 2 (nat (U ^ 1) ⊠ rv c ⊞ inv (rv s.z ⊠ rv f0 ⊞ inv (x ⊠ rv f1))) k = t.near in
    let plain = fix (nat (U ^ 1)) (rv f1) (rv f0) (rv c) x (rv s.z) (ap (λ (z : ℕ). nat z) pow1) (unit_rv false) f0_pair in
    let b' : Bd 1 (rv c ⊞ inv (inv x)) k = bd_unsc 1 1 (rv c ⊞ inv (inv x)) k (subst (λ (z : ℕ). Q * z ≤ k * U ^ 2) plain b) in
    let size = ab-inv x ∙ size-mag s.x in
    (bd_upto 3 c (mg (limits fives) cy) t.fin t.most (lit≤ tt), kept c (inv x) (mag s.x) k size b' (lit≤ tt))
  where
    fix : (u o n c y z : R) → u ≡ nat U → o ≡ nat U → n ≡ nat 0 → ab (u ⊠ c ⊞ inv (z ⊠ n ⊞ inv (y ⊠ o))) ≡ ab (u ⊠ (c ⊞ inv (inv y)))
    fix u o n c y z p q r =
        let left = va 0 ⋆ va 1 ∔ minus (va 3 ⋆ li 0 ∔ minus (va 2 ⋆ va 0)) in
        rw (p, q, r) (ab_poly (nat U ∷ c ∷ y ∷ z ∷ []) left (va 0 ⋆ (va 1 ∔ minus (minus (va 2)))) tt)

cross_z : (s : Vec3) → Unitary s → Upto 1 (cross s Z).z
unfolding closed tame mg cz cross
cross_z s h = expression 1 (five s) fives cz (five_sized s h) tt tt (lit≤ tt)

-- the tangent's parts are at most 2 in size
tangent_span : (s : Vec3) → Raised s → Span 2 (tangent s)
unfolding tangent
tangent_span s r = go (lt (f1 ⊖ s.z) epsilon) (away s.z r.unit.uz r.above)
  where
    go : (b : Bool) → (T (not b) → 17179869184 * mag s.z + U ≤ 17179869184 * U) → Span 2 (cond b X (normalize (cross s Z)))
    go true f = record { x = widen 1 2 f1 (lit≤ tt) f1_upto; y = widen 0 2 f0 (lit≤ tt) f0_upto; z = widen 0 2 f0 (lit≤ tt) f0_upto }
    go false f =
        let v = cross s Z in
        let h = r.unit in
        let kx = cross_x s h in
        let ky = cross_y s h in
        let size : Span 3 v = record { x = kx.0; y = ky.0; z = widen 1 3 v.z (lit≤ tt) (cross_z s h) } in
        let some = which kx.1 ky.1 (side_of (mag s.x) (mag s.y) (mag s.z) (f tt) h.one) in
        unit_span (normalize v) (unitary v (length_of 3 v (lit≤ tt) size some))
      where
        which : {A A' C C' E : Type 0} → (A → A') → (C → C') → C ⊎ A → A' ⊎ (C' ⊎ E)
        which f g (inl c) = inr (inl (g c))
        which f g (inr a) = inl (f a)

-- ---- the disk numbers
disk_upto : (disk c s : Float) → Disk disk c s → Upto 1 disk × (N disk ≡ 0)
unfolding is_random
disk_upto disk c s d =
    let low = and_l (le f0 disk) (lt disk f1) d.number in
    let high = lt-le disk f1 (and_r (le f0 disk) (lt disk f1) d.number) in
    let f : Fin disk = (le-finite f0 disk f1 tt tt low high, d.fits_disk) in
    let n = not_neg disk f low in
    let size = go (P disk) (N disk) (P f1) (N f1) U (le_parts disk f1 f (unit_fin false) high) n f1_parts.0 f1_parts.1 in
    (record { fin = f; size = le_trans (le_of_eq (sym (sum_mag disk))) size }, n)
  where
    go : (p n c d u : ℕ) → p + d ≤ c + n → n ≡ 0 → c ≡ u → d ≡ 0 → p + n ≤ 1 * u
    go p n c d u h i j k = omega arith

pair_upto : (disk c s : Float) → Disk disk c s → Upto 1 c × Upto 1 s
unfolding is_circle_pair within
pair_upto disk c s d =
    let each = and_l ((le f_1 c && le c f1) && (le f_1 s && le s f1)) (within low high (c ⊗ c ⊕ s ⊗ s)) d.pair in
    let hc = and_l (le f_1 c && le c f1) (le f_1 s && le s f1) each in
    let hs = and_r (le f_1 c && le c f1) (le f_1 s && le s f1) each in (
      in_disk c d.fits_c (and_l (le f_1 c) (le c f1) hc) (and_r (le f_1 c) (le c f1) hc),
      in_disk s d.fits_s (and_l (le f_1 s) (le s f1) hs) (and_r (le f_1 s) (le s f1) hs),
    )
  where
    low : Float
    low = decimal 999999999999 1000000000000

    high : Float
    high = decimal 1000000000001 1000000000000

-- ---- the point over the disk: crude bounds are enough
lerp_upto : (v : Vec3) → Upto 2 v.z → Upto 4 (lerp v)
unfolding closed tame mg lerp
lerp_upto v h = half (f1 ⊕ v.z) (expression 4 (f1 ∷ v.z ∷ []) (1 ∷ 2 ∷ []) (fv 0 +ᶠ fv 1) (f1_upto, (h, tt)) tt tt (lit≤ tt))

disk_x_upto : (r c : Float) → Upto 5 r → Upto 1 c → Upto 6 (disk_x r c)
unfolding closed tame mg disk_x
disk_x_upto r c hr hc = expression 6 (r ∷ c ∷ []) (5 ∷ 1 ∷ []) (fv 0 *ᶠ fv 1) (hr, (hc, tt)) tt tt (lit≤ tt)

disk_h_upto : (x : Float) → Upto 6 x → Upto 79 (disk_h x)
unfolding closed tame mg disk_h
disk_h_upto x h =
    root_max 38 (f1 ⊖ x ⊗ x)
    (expression 38 (f1 ∷ x ∷ []) (1 ∷ 6 ∷ []) (fv 0 -ᶠ fv 1 *ᶠ fv 1) (f1_upto, (h, tt)) tt tt (lit≤ tt))

disk_y_upto : (v : Vec3) (r x s : Float) → Upto 2 v.z → Upto 5 r → Upto 6 x → Upto 1 s → Upto 500 (disk_y v r x s)
unfolding closed tame mg disk_y
disk_y_upto v r x s hz hr hx hs =
    expression 500 (f1 ∷ lerp v ∷ disk_h x ∷ r ∷ s ∷ []) (1 ∷ 4 ∷ 79 ∷ 5 ∷ 1 ∷ []) ((fv 0 -ᶠ fv 1) *ᶠ fv 2 +ᶠ fv 1 *ᶠ fv 3 *ᶠ fv 4)
    (f1_upto, (lerp_upto v hz, (disk_h_upto x hx, (hr, (hs, tt))))) tt tt (lit≤ tt)

disk_z_upto : (x y : Float) → Upto 6 x → Upto 500 y → Upto 502003 (disk_z x y)
unfolding closed tame mg disk_z
disk_z_upto x y hx hy =
    root_max 251000 (f1 ⊖ x ⊗ x ⊖ y ⊗ y)
    (expression 251000 (f1 ∷ x ∷ y ∷ []) (1 ∷ 6 ∷ 500 ∷ []) (fv 0 -ᶠ fv 1 *ᶠ fv 1 -ᶠ fv 2 *ᶠ fv 2)
    (f1_upto, (hx, (hy, tt))) tt tt (lit≤ tt))

hemisphere_span : (v : Vec3) (disk c s : Float) → Disk disk c s → Upto 2 v.z → Span 502003 (on_hemisphere v (sqrt disk) c s)
unfolding on_hemisphere
hemisphere_span v disk c s d hz =
    let k = disk_upto disk c s d in
    let p = pair_upto disk c s d in
    let r = sqrt disk in
    let hr : Upto 5 r = root_upto 1 disk k.0 k.1 in
    let x = disk_x r c in
    let hx = disk_x_upto r c hr p.0 in
    let y = disk_y v r x s in
    let hy = disk_y_upto v r x s hz hr hx p.1 in
    record { x = widen 6 502003 x (lit≤ tt) hx; y = widen 500 502003 y (lit≤ tt) hy; z = disk_z_upto x y hx hy }

-- ---- the second tangent and the combined vector
abbrev six : Vec3 → Vec3 → List Float
six t v = t.x ∷ t.y ∷ t.z ∷ v.x ∷ v.y ∷ v.z ∷ []

second_span : (t v : Vec3) → Span 2 t → Span 2 v → Span 9 (cross t v)
unfolding closed tame mg cross
second_span t v ht hv =
    let sized : Sized (six t v) (2 ∷ 2 ∷ 2 ∷ 2 ∷ 2 ∷ 2 ∷ []) = (ht.x, (ht.y, (ht.z, (hv.x, (hv.y, (hv.z, tt)))))) in
    record {
      x = expression 9 (six t v) (2 ∷ 2 ∷ 2 ∷ 2 ∷ 2 ∷ 2 ∷ []) (fv 1 *ᶠ fv 5 -ᶠ fv 2 *ᶠ fv 4) sized tt tt (lit≤ tt);
      y = expression 9 (six t v) (2 ∷ 2 ∷ 2 ∷ 2 ∷ 2 ∷ 2 ∷ []) (fv 2 *ᶠ fv 3 -ᶠ fv 0 *ᶠ fv 5) sized tt tt (lit≤ tt);
      z = expression 9 (six t v) (2 ∷ 2 ∷ 2 ∷ 2 ∷ 2 ∷ 2 ∷ []) (fv 0 *ᶠ fv 4 -ᶠ fv 1 *ᶠ fv 3) sized tt tt (lit≤ tt);
    }

mixed : (a b c t u v : Float) → Upto 502003 a → Upto 502003 b → Upto 502003 c → Upto 2 t → Upto 9 u → Upto 2 v
    → Upto 7000000 (a ⊗ t ⊕ b ⊗ u ⊕ c ⊗ v)
unfolding closed tame mg
mixed a b c t u v ha hb hc ht hu hv =
    expression 7000000 (a ∷ b ∷ c ∷ t ∷ u ∷ v ∷ []) (502003 ∷ 502003 ∷ 502003 ∷ 2 ∷ 9 ∷ 2 ∷ [])
    (fv 0 *ᶠ fv 3 +ᶠ fv 1 *ᶠ fv 4 +ᶠ fv 2 *ᶠ fv 5)
    (ha, (hb, (hc, (ht, (hu, (hv, tt)))))) tt tt (lit≤ tt)

combined_span : (t v p : Vec3) → Span 2 t → Span 2 v → Span 502003 p → Span 7000000 (combined t v p)
unfolding combined add float_mul
combined_span t v p ht hv hp =
    let u = cross t v in
    let hu = second_span t v ht hv in
    record {
      x = mixed p.x p.y p.z t.x u.x v.x hp.x hp.y hp.z ht.x hu.x hv.x;
      y = mixed p.x p.y p.z t.y u.y v.y hp.x hp.y hp.z ht.y hu.y hv.y;
      z = mixed p.x p.y p.z t.z u.z v.z hp.x hp.y hp.z ht.z hu.z hv.z;
    }

-- ---- the last length: z is at least EPSILON
eps_some : Some (mag epsilon)
eps_some = subst (λ (z : ℕ). U ≤ 549755813888 * z) (sum_mag epsilon) (lin (P epsilon) (N epsilon) U eps_is.0)
  where
    lin : (p n u : ℕ) → 3 * u ≤ 34359738368 * p → u ≤ 549755813888 * (p + n)
    lin p n u h = omega arith

max_eps : (k : ℕ) (y : Float) → 1 ≤ k → Upto k y → Upto k (max y epsilon) × Some (mag (max y epsilon))
unfolding max is_nan
max_eps k nan l h = absurd h.fin.0
max_eps k (inf s) l h = absurd h.fin.0
max_eps k (fin s m e) l h = go (lt (fin s m e) epsilon) (nlt_parts (fin s m e) epsilon h.fin eps_fin)
  where
    y : Float
    y = fin s m e

    go : (b : Bool) → (T (not b) → P epsilon + N y ≤ P y + N epsilon) → Upto k (cond b epsilon y) × Some (mag (cond b epsilon y))
    go true f = (record { fin = eps_fin; size = le_trans eps_is.2 (mul-le-mul_right U l) }, eps_some)
    go false f =
        let some = lin (P y) (N y) (P epsilon) (N epsilon) U (f tt) eps_is.0 eps_is.1 in
        (h, subst (λ (z : ℕ). U ≤ 549755813888 * z) (sum_mag y) some)
      where
        lin : (p n a b u : ℕ) → a + n ≤ p + b → 3 * u ≤ 34359738368 * a → b ≡ 0 → u ≤ 549755813888 * (p + n)
        lin p n a b u h i j = omega arith

roughened : (r m : Float) → RoughPart r → Upto 7000000 m → Upto 7000001 (r ⊗ m)
unfolding closed tame mg
roughened r m hr hm = expression 7000001 (r ∷ m ∷ []) (1 ∷ 7000000 ∷ []) (fv 0 *ᶠ fv 1) (hr.up, (hm, tt)) tt tt (lit≤ tt)

unstretched_unitary : (a : Vec2) (m : Vec3) → Rough a → Span 7000000 m → Unitary (unstretched a m)
unfolding unstretched
unstretched_unitary a m h c =
    let v = vec3 (a.x ⊗ m.x) (a.y ⊗ m.y) (max m.z epsilon) in
    let z = max_eps 7000000 m.z (lit≤ tt) c.z in
    let s : Span 7000001 v = record {
      x = roughened a.x m.x (rough_x a h) c.x;
      y = roughened a.y m.y (rough_y a h) c.y;
      z = widen 7000000 7000001 v.z (lit≤ tt) z.0;
    } in
    unitary v (length_of 7000001 v (lit≤ tt) s (inr (inr z.1)))

-- ---- the laws
-- a local direction whose length is away from 0
pub record Local (l : Vec3) : Type 0 where
  pub sizes : Tame3 l
  pub large : Large l.x ⊎ (Large l.y ⊎ Large l.z)

pub local_of : (n d : Vec3) → Direction n → Direction d → Local (to_local (basis n) d)
local_of n d hn hd = record { sizes = local_tame n d hn hd; large = local_large n d hn hd }

pub local_span : (l : Vec3) → Local l → Span 8 l
local_span l h = record { x = tame_upto l.x h.sizes.0; y = tame_upto l.y h.sizes.1; z = tame_upto l.z h.sizes.2 }

-- the direction in the hemisphere's configuration, on Z's side
pub viewed_raised : (a : Vec2) (l : Vec3) → Rough a → Local l → Raised (viewed a l)
unfolding viewed stretched
viewed_raised a l h k = raised (normalize (squeezed a l)) (unitary (squeezed a l) (squeezed_unit a l h k.sizes k.large))

pub sampled-normal : (a : Vec2) (l : Vec3) (disk c s : Float) → Rough a → Local l → Disk disk c s → Unitary (sample_normal a l disk c s)
unfolding sample_normal
sampled-normal a l disk c s h k d =
    let v = viewed a l in
    let r = viewed_raised a l h k in
    let t = tangent v in
    let p = on_hemisphere v (sqrt disk) c s in
    let size = combined_span t v p (tangent_span v r) (unit_span v r.unit) (hemisphere_span v disk c s d r.unit.uz) in
    unstretched_unitary a (combined t v p) h size
