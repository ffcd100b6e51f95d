-- What document 01's limit on a direction tells of its parts, and the slope of the basis around it.
-- Proved: a vector of binary64 values that `is_direction` accepts has finite parts below 1 + 2 ^ -13 (`parts_of`), and the exact sum of their squares is 1 within 2 ^ -18 (`unit_norm`);
-- the slope -1 / (sgn + z) is finite, and its product with the divisor is -1 within 2 ^ -50 (`slope_of`). The parts from the order of rounded sums, the rest from Expression and the error of the quotient.
use Rattle.std.specs.Float.{nan, inf, fin, Format, binary64}
use Rattle.std.specs.Float.Ieee.{add, mul, le, fits}
use Rattle.std.proofs.Common.{◌≡◌, ℕ, ◌+◌, ◌-◌, ◌*◌, ◌/◌, ◌^◌, ◌<◌, ◌≤◌, Bool, true, false, T, ◌⊎◌, List, [], ◌∷◌, pos, negsuc, sym, refl, ap, ◌∙◌, subst, inl, inr, zero-le, le_trans, le_of_eq, le_refl, lt_of_le_of_lt, lt_irrefl, mul-le-mul_right, mul_comm, mul-le-mul, mul-le-mul_left, mul-pos, not-le_of_lt, le_of_mul-le-mul_right, arith, lit<, lit≤, Float}
use lib.Ieee.Fits.{and_l, and_r}
use Rattle.floats.proofs.Rounding.{rnd, Near, rnd_fix, rnd-mono, rnd_idem, below_or_from}
use Rattle.floats.proofs.Rounding.Units.{U, O, U_pos, is_of, sign, mag, add-nan}
use Rattle.floats.proofs.Rounding.NonNegative.{Ext, le_ext, add_ext, rnd_O, two_U, two_O, square_ext, rnd-ge}
use Rattle.floats.proofs.Rounding.Error.{Fin, P, N, M, M/2, le_parts, div_err, unit_fin, m1_is}
use Rattle.floats.proofs.Rounding.SignedPoly.{R, ◌⊞◌, ◌⊠◌, inv, nat, Ex, va, ◌∔◌, ◌⋆◌, minus, vanishes, ab, ab-add, ab-inv, ab-nat, ab-mul, ab_poly, Q, Bd, bd_more, bd_add, bd_inv, bd_mul, sc, bd_sc, lift, from_bd}
use Rattle.floats.proofs.Rounding.Expression.{rv, size-ab, pow1, pow2, ulp, add_bd, Fl, fv, ◌+ᶠ◌, ◌*ᶠ◌, pd, ex, mg, er, tame, closed, Sound, sound, size-mag}
use Rattle.numbers.specs.declared.vec3.Vec3.{Vec3}
use Rattle.floats.specs.Float.{◌⊕◌, ◌⊗◌, f_1, decimal, within, signum}
use Rattle.numbers.specs.Vec3.{dot, length_squared, is_direction}
use Rattle.numbers.specs.Onb.{slope}

abbrev B : Format
B = binary64

-- ---- a direction: three binary64 values whose computed square passes the test
pub record Direction (w : Vec3) : Type 0 where
  pub fits_x : T (fits B w.x)
  pub fits_y : T (fits B w.y)
  pub fits_z : T (fits B w.z)
  pub test : T (is_direction w)

-- 0.999999 and 1.000001
abbrev low : Float
low = fin false 9007190247541737 (negsuc 52)

abbrev high : Float
high = fin false 4503604130970123 (negsuc 51)

low_is : decimal 999999 1000000 ≡ low
unfolding decimal
low_is = refl

high_is : decimal 1000001 1000000 ≡ high
unfolding decimal
high_is = refl

least : (w : Vec3) → Direction w → T (le low (dot w w))
unfolding is_direction length_squared within
least w d = rw (← low_is) (and_l (le (decimal 999999 1000000) (dot w w)) (le (dot w w) (decimal 1000001 1000000)) d.test)

most : (w : Vec3) → Direction w → T (le (dot w w) high)
unfolding is_direction length_squared within
most w d = rw (← high_is) (and_r (le (decimal 999999 1000000) (dot w w)) (le (dot w w) (decimal 1000001 1000000)) d.test)

-- ---- each part is finite and below 1 + 2 ^ -13
-- a square: not a number, or not negative; and finite only where its root is
abbrev Square : Float → Float → Type 0
Square x s = (s ≡ nan) ⊎ ((a : ℕ) × Ext s a × (rnd 53 a 1 ≡ a) × (a < O → Fin x × (a ≡ rnd 53 (mag x * mag x * U) (U * U))))

square : (x : Float) → T (fits B x) → Square x (x ⊗ x)
unfolding mul
square nan f = inl refl
square (inf false) f = inr (O, inr (le_refl O, refl), rnd_O, λ (h : O < O). absurd (lt_irrefl O h))
square (inf true) f = inr (O, inr (le_refl O, refl), rnd_O, λ (h : O < O). absurd (lt_irrefl O h))
square (fin s m e) f =
    let x = fin s m e in
    let n = mag x in
    let r = rnd 53 (n * n * U) (U * U) in
    inr (r, square_ext x s n (is_of x tt f).0, rnd_idem 53 (n * n * U) (U * U) (lit< tt) (mul-pos U_pos U_pos), λ (h : r < O). ((tt, f), refl))

-- not a number, or at least a
abbrev From : Float → ℕ → Type 0
From s a = (s ≡ nan) ⊎ ((b : ℕ) × Ext s b × (rnd 53 b 1 ≡ b) × (a ≤ b))

nan-add : (y : Float) → nan ⊕ y ≡ nan
unfolding add
nan-add y = refl

nan-le : (y : Float) → T (le nan y) → ⊥
unfolding le
nan-le y h = h

nan_left : (x y : Float) → x ≡ nan → x ⊕ y ≡ nan
nan_left x y e = ap (λ (z : Float). z ⊕ y) e ∙ nan-add y

nan_right : (x y : Float) → y ≡ nan → x ⊕ y ≡ nan
nan_right x y e = ap (λ (z : Float). x ⊕ z) e ∙ add-nan x

-- a sum is at least each of the two
sum_from : (x y : Float) (a b c : ℕ) → From x a → From y b → (c ≤ a) ⊎ (c ≤ b) → From (x ⊕ y) c
sum_from x y a b c (inl e) h k = inl (nan_left x y e)
sum_from x y a b c (inr p) (inl e) k = inl (nan_right x y e)
sum_from x y a b c (inr p) (inr q) k =
    inr (n, add_ext x y p.0 q.0 p.1 q.1, rnd_idem 53 (p.0 + q.0) 1 (lit< tt) (lit< tt), rises k)
  where
    n : ℕ
    n = rnd 53 (p.0 + q.0) 1

    rises : (c ≤ a) ⊎ (c ≤ b) → c ≤ n
    rises (inl l) = le_trans l (le_trans p.3 (rnd-ge p.0 (p.0 + q.0) 1 (lit< tt) p.2 (omega arith)))
    rises (inr l) = le_trans l (le_trans q.3 (rnd-ge q.0 (p.0 + q.0) 1 (lit< tt) q.2 (omega arith)))

square_from : (x s : Float) → Square x s → From s 0
square_from x s (inl e) = inl e
square_from x s (inr p) = inr (p.0, p.1, p.2, zero-le)

from_itself : (s : Float) (a : ℕ) → Ext s a → rnd 53 a 1 ≡ a → From s a
from_itself s a h k = inr (a, h, k, le_refl a)

-- the units of the upper limit
H : ℕ
H = 4503604130970123 * 2 ^ 1022

H_ext : Ext high H
unfolding H U O
H_ext = inl (lit< tt, (false, (refl, refl), refl))

H_O : H < O
unfolding H O
H_O = lit< tt

-- a value whose square is at most H is below 1 + 2 ^ -13
K : ℕ
K = 4097 * 2 ^ 1062

K_held : rnd 53 K 1 ≡ K
unfolding K
K_held = rnd_fix 53 4097 1062 (lit< tt)

H_K : H < K
unfolding H K
H_K = lit< tt

K_U : 4096 * K ≡ 4097 * U
unfolding K U
K_U = refl

part_bound : (m : ℕ) → rnd 53 (m * m * U) (U * U) ≤ H → 8192 * m ≤ 8193 * U
part_bound m h = elim (below_or_from (8193 * U) (8192 * m)) [
  | inl l ↦ absurd (not-le_of_lt H_K (le_trans (le_of_eq (sym K_held)) (le_trans (grown l) h)))
  | inr g ↦ g
]
  where
    squared : (m u : ℕ) → 8193 * u < 8192 * m → 67125249 * (u * u * u) ≤ 67108864 * (m * m * u)
    squared m u l =
        let s : 8193 * u * (8193 * u) ≤ 8192 * m * (8192 * m) = mul-le-mul (omega arith) (omega arith) in
        let c = mul-le-mul_right u s in
        omega arith

    big : (m k u : ℕ) → 8193 * u < 8192 * m → 4096 * k ≡ 4097 * u → k * (u * u) ≤ m * m * u * 1
    big m k u l e =
        let a = ap (λ (z : ℕ). z * (u * u)) e in
        let s = squared m u l in
        omega arith

    grown : 8193 * U < 8192 * m → rnd 53 K 1 ≤ rnd 53 (m * m * U) (U * U)
    grown l = rnd-mono 53 K 1 (m * m * U) (U * U) (lit< tt) (lit< tt) (mul-pos U_pos U_pos) (big m K U l K_U)

-- 1 + 2 ^ -13
abbrev pub c1 : ℕ
c1 = 18448995873523236864

pub record Part (x : Float) : Type 0 where
  pub fin : Fin x
  pub size : Bd 1 (rv x) c1

le-nan : (n y : Float) → n ≡ nan → T (le n y) → ⊥
le-nan n y e h = nan-le y (subst (λ (z : Float). T (le z y)) e h)

-- one part x, of square s, where the whole sum n is not a number with s and is at least s
part : (x n s : Float) → T (le n high) → Square x s → (s ≡ nan → n ≡ nan) → ((a : ℕ) → Ext s a → rnd 53 a 1 ≡ a → From n a) → Part x
part x n s l (inl e) f g = absurd (le-nan n high (f e) l)
part x n s l (inr p) f g = go (g p.0 p.1 p.2)
  where
    done : p.0 ≤ H → Part x
    done h =
        let w = p.3 (lt_of_le_of_lt h H_O) in
        let b = part_bound (mag x) (le_trans (le_of_eq (sym w.1)) h) in
        record { fin = w.0; size = rw (size-mag x, pow1) (omega arith) }

    go : From n p.0 → Part x
    go (inl e) = absurd (le-nan n high e l)
    go (inr q) = done (le_trans q.3 (le_ext n high q.0 H q.1 H_ext H_O l))

pub record Parts (w : Vec3) : Type 0 where
  pub px : Part w.x
  pub py : Part w.y
  pub pz : Part w.z

pub parts_of : (w : Vec3) → Direction w → Parts w
unfolding dot
parts_of w d =
    let x² = w.x ⊗ w.x in
    let y² = w.y ⊗ w.y in
    let z² = w.z ⊗ w.z in
    let sx = square w.x d.fits_x in
    let sy = square w.y d.fits_y in
    let sz = square w.z d.fits_z in
    let nx = square_from w.x x² sx in
    let ny = square_from w.y y² sy in
    let nz = square_from w.z z² sz in
    let n = dot w w in
    record {
      px = part w.x n x² (most w d) sx
          (λ (e : x² ≡ nan). nan_left (x² ⊕ y²) z² (nan_left x² y² e))
          (λ (a : ℕ) (h : Ext x² a) (k : rnd 53 a 1 ≡ a). sum_from (x² ⊕ y²) z² a 0 a (sum_from x² y² a 0 a (from_itself x² a h k) ny (inl (le_refl a))) nz (inl (le_refl a)));
      py = part w.y n y² (most w d) sy
          (λ (e : y² ≡ nan). nan_left (x² ⊕ y²) z² (nan_right x² y² e))
          (λ (a : ℕ) (h : Ext y² a) (k : rnd 53 a 1 ≡ a). sum_from (x² ⊕ y²) z² a 0 a (sum_from x² y² 0 a a nx (from_itself y² a h k) (inr (le_refl a))) nz (inl (le_refl a)));
      pz = part w.z n z² (most w d) sz
          (λ (e : z² ≡ nan). nan_right (x² ⊕ y²) z² e)
          (λ (a : ℕ) (h : Ext z² a) (k : rnd 53 a 1 ≡ a). sum_from (x² ⊕ y²) z² 0 a a (sum_from x² y² 0 0 0 nx ny (inl zero-le)) (from_itself z² a h k) (inr (le_refl a)));
    }

-- ---- the sum of the squares is 1 within 2 ^ -18
unfoldable squares : Fl
squares = fv 0 *ᶠ fv 0 +ᶠ fv 1 *ᶠ fv 1 +ᶠ fv 2 *ᶠ fv 2

-- the exact sum, in units of units
abbrev pub norm2 : Vec3 → R
norm2 w = rv w.x ⊠ rv w.x ⊞ rv w.y ⊠ rv w.y ⊞ rv w.z ⊠ rv w.z

abbrev limits : List ℕ
limits = c1 ∷ c1 ∷ c1 ∷ []

squares_sound : (w : Vec3) → Parts w → Sound (w.x ∷ w.y ∷ w.z ∷ []) limits squares
unfolding closed tame squares
squares_sound w p = sound (w.x ∷ w.y ∷ w.z ∷ []) limits squares (p.px.fin, p.px.size, (p.py.fin, p.py.size, (p.pz.fin, p.pz.size, tt))) tt tt

low_fin : Fin low
unfolding fits
low_fin = (tt, tt)

high_fin : Fin high
unfolding fits
high_fin = (tt, tt)

low_parts : (524287 * U ≤ 524288 * P low) × (N low ≡ 0)
unfolding P N U
low_parts = (lit≤ tt, refl)

high_parts : (524288 * P high ≤ 524289 * U) × (N high ≡ 0)
unfolding P N U
high_parts = (lit≤ tt, refl)

-- 2 ^ -19 and 2 ^ -18
abbrev e19 : ℕ
e19 = 35184372088832

abbrev pub e18 : ℕ
e18 = 70368744177664

close : (n : Float) → Fin n → T (le low n) → T (le n high) → Bd 1 (rv n ⊞ inv (nat U)) e19
unfolding ab ◌⊞◌ inv
close n f l h =
    let above = le_parts low n low_fin f l in
    let below = le_parts n high f high_fin h in
    rw pow1 (go (P low) (N low) (P high) (N high) (P n) (N n) U above below low_parts.0 low_parts.1 high_parts.0 high_parts.1)
  where
    wide : (t u : ℕ) → 524288 * t ≤ u → Q * t ≤ e19 * u
    wide t u h = omega arith

    go : (a b c d p n u : ℕ) → a + n ≤ p + b → p + d ≤ c + n → 524287 * u ≤ 524288 * a → b ≡ 0 → 524288 * c ≤ 524289 * u → d ≡ 0
        → Q * ((p + 0 - (n + u)) + (n + u - (p + 0))) ≤ e19 * u
    go a b c d p n u h k l m x y = wide ((p + 0 - (n + u)) + (n + u - (p + 0))) u (omega arith)

pub unit_norm : (w : Vec3) → Direction w → Bd 2 (norm2 w ⊞ inv (nat U ⊠ nat U)) e18
unfolding vanishes sc pd ex lift er mg squares dot
unit_norm w d =
    let s = squares_sound w (parts_of w d) in
    let n = dot w w in
    let e = er limits squares in
    let off = sc 1 (rv n) ⊞ inv (norm2 w) in
    let from_one = rv n ⊞ inv (nat U) in
    let c = bd_sc 1 1 from_one e19 (close n s.fin (least w d) (most w d)) in
    let t = bd_add 2 (inv off) (sc 1 from_one) e e19 (bd_inv 2 off e s.near) c in
    bd_more 2 (norm2 w ⊞ inv (nat U ⊠ nat U)) (e + e19) e18 (lit≤ tt)
    (subst (λ (z : ℕ). Q * z ≤ (e + e19) * U ^ 2) (joined (nat (U ^ 1)) (ap (λ (z : ℕ). nat z) pow1) (rv n) (norm2 w)) t)
  where
    joined : (u : R) → u ≡ nat U → (n s : R) → ab (inv (u ⊠ n ⊞ inv s) ⊞ u ⊠ (n ⊞ inv (nat U))) ≡ ab (s ⊞ inv (nat U ⊠ nat U))
    joined u q n s =
        ap (λ (z : R). ab (inv (z ⊠ n ⊞ inv s) ⊞ z ⊠ (n ⊞ inv (nat U)))) q
        ∙ ab_poly (nat U ∷ n ∷ s ∷ []) (minus (va 0 ⋆ va 1 ∔ minus (va 2)) ∔ va 0 ⋆ (va 1 ∔ minus (va 0))) (va 2 ∔ minus (va 0 ⋆ va 0)) tt

-- ---- the sign of z
abbrev pub sg_r : Bool → R
sg_r false = nat U
sg_r true = inv (nat U)

abbrev pub sg_e : Bool → Ex
sg_e false = va 0
sg_e true = minus (va 0)

abbrev pub Towards : Bool → Float → Type 0
Towards false z = N z ≡ 0
Towards true z = P z ≡ 0

pub record Signed (z : Float) (b : Bool) : Type 0 where
  pub fin : Fin (signum z)
  pub is : rv (signum z) ≡ sg_r b
  pub to : Towards b z

pub unit_rv : (s : Bool) → rv (fin s 1 (pos 0)) ≡ sg_r s
unfolding P N U inv
unit_rv false = refl
unit_rv true = refl

towards : (z : Float) → Towards (sign z) z
unfolding P N
towards z = go (sign z) refl
  where
    go : (b : Bool) → sign z ≡ b → Towards b z
    go false e = rw e refl
    go true e = rw e refl

pub signed_of : (z : Float) → Fin z → Signed z (sign z)
unfolding signum
signed_of nan f = absurd f.0
signed_of (inf s) f = absurd f.0
signed_of (fin s m e) f = record { fin = unit_fin s; is = unit_rv s; to = towards (fin s m e) }

sg_size : (b : Bool) → ab (sg_r b) ≡ U
sg_size false = ab-nat U
sg_size true = ab-inv (nat U) ∙ ab-nat U

-- |σ + z| is at least 1
pub apart : (b : Bool) (z : Float) → Towards b z → U ≤ ab (sg_r b ⊞ rv z)
unfolding ab ◌⊞◌ inv
apart false z h = omega arith
apart true z h = omega arith

pub bd_sg : (b : Bool) → Bd 1 (sg_r b) Q
bd_sg b = le_of_eq (ap (λ (z : ℕ). Q * z) (sg_size b ∙ sym pow1))

-- ---- the slope: -1 / (σ + z)
-- a little above 1, and 2 ^ -50
abbrev pub ca : ℕ
ca = 18482772870728515584

abbrev pub e_e : ℕ
e_e = 16384

pub record Slope (w : Vec3) (b : Bool) : Type 0 where
  pub fin : Fin (slope w)
  pub size : Bd 1 (rv (slope w)) ca
  pub near : Bd 2 (nat U ⊠ nat U ⊞ rv (slope w) ⊠ (sg_r b ⊞ rv w.z)) e_e

slack : 3 * (M/2 * U) ≤ U * U
unfolding U
slack = lit≤ tt

pub flip_near : (z w : R) → ab w ≤ ab z + ab (z ⊞ inv w)
unfolding vanishes
flip_near z w =
    le_trans (le_of_eq (ab_poly (z ∷ w ∷ []) (va 1) (va 0 ∔ minus (va 0 ∔ minus (va 1))) tt))
    (le_trans (ab-add z (inv (z ⊞ inv w))) (le_of_eq (ap (λ (v : ℕ). ab z + v) (ab-inv (z ⊞ inv w)))))

pub divide : (g s c e b : ℕ) → 0 < c → Q * (g * s) ≤ e * (c * c) → 1023 * c ≤ 1024 * g → 1024 * e ≤ 1023 * b → Q * s ≤ b * c
divide g s c e b p h k l =
    le_of_mul-le-mul_right {k = 1023 * c} (omega (arith, mul-le-mul_left (Q * s) k, mul-le-mul_left 1024 h, mul-le-mul_right (c * c) l)) (mul-pos (lit< tt) p)

-- the divisor's size, t units, from the exact size s and their difference d
lows : (s t d u : ℕ) → u ≤ s → s ≤ t + d → Q * d ≤ ulp (Q + c1) * u → 1023 * u ≤ 1024 * t
lows s t d u a b c = omega arith

highs : (t u : ℕ) → Q * t ≤ (ulp (Q + c1) + (Q + c1)) * u → t ≤ 3 * u
highs t u h = from_bd t (ulp (Q + c1) + (Q + c1)) 3 u h (lit≤ tt)

halves : (u t : ℕ) → 1023 * u ≤ 1024 * t → u * u * 1 ≤ 2 * u * t
halves u t h = le_of_mul-le-mul_right {k = 1024} (let g = mul-le-mul_left u h in omega arith) (lit< tt)

above_zero : (t u : ℕ) → 1023 * u ≤ 1024 * t → 0 < u → 0 < t
above_zero t u h g = omega arith

-- so the quotient is below 2
below_O : (t : ℕ) → 1023 * U ≤ 1024 * t → rnd 53 (U * U) t < O
below_O t h =
    let r = rnd-mono 53 (U * U) t (2 * U) 1 (lit< tt) (above_zero t U h U_pos) (lit< tt) (halves U t h) in
    lt_of_le_of_lt r (lt_of_le_of_lt (le_of_eq two_U) two_O)

m1_size : P f_1 + N f_1 ≡ U
unfolding P N U
m1_size = refl

-- the error of the quotient, of value (a, b), times the divisor, of value (p, n)
err : (a b p n t : ℕ) → Near (M * (a * p + b * n + U * U)) (M * (a * n + b * p + U * 0)) ((0 + U) * U + M/2 * t)
    → M * ab ((a, b) ⊠ (p, n) ⊞ nat U ⊠ nat U) ≤ U * U + M/2 * t
unfolding ab ◌⊞◌ ◌⊠◌
err a b p n t h =
    omega arith

shrunk : (x v e u : ℕ) → M * x ≤ v + e → e ≤ M/2 * (3 * u) → 3 * (M/2 * u) ≤ v → Q * x ≤ 4096 * v
shrunk x v e u a b c = omega arith

a_near : (p : R) → ab p ≤ ab (p ⊞ nat U ⊠ nat U) + U * U
unfolding vanishes
a_near p =
    let one = nat U ⊠ nat U in
    le_trans (le_of_eq (ab_poly (p ∷ nat U ∷ []) (va 0) (va 0 ∔ va 1 ⋆ va 1 ∔ minus (va 1 ⋆ va 1)) tt))
    (le_trans (ab-add (p ⊞ one) (inv one)) (le_of_eq (ap (λ (v : ℕ). ab (p ⊞ one) + v) (ab-inv one ∙ ab-mul (nat U) (nat U) ∙ ap (λ (v : ℕ). v * v) (ab-nat U)))))

prod_le : (p x v a t : ℕ) → p ≡ a * t → p ≤ x + v → Q * x ≤ 4096 * v → Q * (a * t) ≤ (4096 + Q) * v
prod_le p x v a t e h g = omega arith

size_a : (a t u : ℕ) → 0 < u → Q * (a * t) ≤ (4096 + Q) * (u * u) → 1023 * u ≤ 1024 * t → Q * a ≤ ca * u
size_a a t u u0 h g = divide t a u (4096 + Q) ca u0 (le_trans (le_of_eq (ap (λ (z : ℕ). Q * z) (mul_comm t a))) h) g (lit≤ tt)

-- from the computed divisor t to the exact one s
exact : (a t s : R) → ab (a ⊠ t ⊞ nat U ⊠ nat U ⊞ inv (a ⊠ (t ⊞ inv s))) ≡ ab (nat U ⊠ nat U ⊞ a ⊠ s)
unfolding vanishes
exact a t s = ab_poly (nat U ∷ a ∷ t ∷ s ∷ []) (va 1 ⋆ va 2 ∔ va 0 ⋆ va 0 ∔ minus (va 1 ⋆ (va 2 ∔ minus (va 3)))) (va 0 ⋆ va 0 ∔ va 1 ⋆ va 3) tt

pub slope_of : (w : Vec3) (b : Bool) → Part w.z → Signed w.z b → Slope w b
unfolding slope
slope_of w b p g =
    let z = w.z in
    let σ = signum z in
    let t = σ ⊕ z in
    let a = slope w in
    let σz = sg_r b ⊞ rv z in
    -- the divisor
    let s = add_bd σ z Q c1 g.fin p.fin (rw g.is (bd_sg b)) p.size (lit≤ tt) in
    let k = ulp (Q + c1) in
    let D = rv t ⊞ inv σz in
    let bD : Bd 1 D k = rw g.is at s.1 in
    let st = size-ab t in
    let T₀ = ab (rv t) in
    let low-t : 1023 * U ≤ 1024 * T₀ = lows (ab σz) T₀ (ab D) U (apart b z g.to) (flip_near (rv t) σz) (rw pow1 at bD) in
    let high-t : T₀ ≤ 3 * U = highs T₀ U (rw pow1 at s.2) in
    let t0 : 0 < P t + N t = subst (λ (z : ℕ). 0 < z) (sym st) (above_zero T₀ U low-t U_pos) in
    -- the quotient: its product with the divisor, and its size
    let d = div_err f_1 t (unit_fin true) s.0 t0 (rw (st, m1_size) (below_O T₀ low-t)) in
    let W = rv a ⊠ rv t ⊞ nat U ⊠ nat U in
    let eW = err (P a) (N a) (P t) (N t) T₀ (rw (m1_is.0, m1_is.1, st) at d.1) in
    let bW : Bd 2 W 4096 = rw pow2 (shrunk (ab W) (U * U) (M/2 * T₀) U eW (mul-le-mul_left M/2 high-t) slack) in
    let A = ab (rv a) in
    let at_most = prod_le (ab (rv a ⊠ rv t)) (ab W) (U * U) A T₀ (ab-mul (rv a) (rv t)) (a_near (rv a ⊠ rv t)) (rw pow2 at bW) in
    let ba : Bd 1 (rv a) ca = rw pow1 (size_a A T₀ U U_pos at_most low-t) in
    -- and its product with the exact divisor
    let c = ca * k / Q + 1 in
    let bP = bd_inv 2 (rv a ⊠ D) c (bd_mul 1 1 (rv a) D ca k ba bD) in
    let bE = subst (λ (v : ℕ). Q * v ≤ (4096 + c) * U ^ 2) (exact (rv a) (rv t) σz) (bd_add 2 W (inv (rv a ⊠ D)) 4096 c bW bP) in
    record { fin = d.0; size = ba; near = bd_more 2 (nat U ⊠ nat U ⊞ rv a ⊠ σz) (4096 + c) e_e (lit≤ tt) bE }
