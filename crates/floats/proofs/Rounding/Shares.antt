-- Shares and quotients of values that are not negative, for every such value of binary64.
-- Proved: a weight from 0 to 1 makes no value larger (`weight`); a / b is from 0 to 1 where a <= b
-- (`quotient`); x and 1 - x add up to 1 exactly for x from 0 to 1 (`shares`);
-- the square of (x - y) / (x + y) is from 0 to 1 (`contrast`).
-- All by the order of the rounded numbers of units; `shares` by the error of the one rounding, which is below half a step under 1.
use Rattle.std.proofs.Common.{◌≡◌, refl, sym, ◌∙◌, subst, ◌⊎◌, inl, inr, ℕ, ◌+◌, ◌-◌, ◌*◌, ◌/◌, ◌^◌, ◌≤◌, ◌<◌, zero-le, le_trans, le_of_eq, le_antisymm, lt_of_le_of_lt, lt_irrefl, eq-or-lt_of_le, mul-le-mul_right, mul-le-mul_left, mul-le-mul, mul-pos, sub-le, arith, Bool, true, false, not, T, lit≤, lit<, pow_mono, Float}
use lib.Ieee.{inf, fin, Format, binary64, unlike, size, round, neg, add, sub, mul, div, le, lt, fits}
use lib.Ieee.Digits.{size-le}
use lib.Ieee.Fits.{add-fits}
use lib.Ieee.Order.{drop}
use lib.Ieee.Scale.{finite}
use Rattle.floats.proofs.Rounding.{rnd, Near, rnd-mono, rnd_err}
use Rattle.floats.proofs.Rounding.Units.{U, O, U_is, U_pos, U_O, Is, unique, pp, nn, round_units, round_whole, neg_is, div_is, add_is, sum_is, sub_opens, pp_is, swap_pp, swap_nn}
use Rattle.floats.proofs.Rounding.NonNegative.{unit_is, Fine, Ext, ext_of, le_ext, unit_ext, mul_ext, div_ext, sub-fine, add_ext, fine_of, share_of, inside, fine_under, lt-le, lt-nil_pos, U_held, unit_fine, square_ext}
use Rattle.floats.specs.Float.{f1, f0}

abbrev B : Format
B = binary64

-- finite, and from 0 to 1
abbrev pub Share : Float → Type 0
Share q = T (finite q) × T (le f0 q) × T (le q f1)

-- ---- a weight from 0 to 1
pub weight : (p w : Float) → T (fits B p) → T (fits B w) → T (le f0 p) → T (finite p) → T (le f0 w) → T (le w f1)
    → T (finite (mul B p w)) × T (le f0 (mul B p w)) × T (le (mul B p w) p)
weight p w fp fw p0 pf w0 w1 =
    let a = fine_of p fp p0 pf in
    let b = share_of w fw w0 w1 in
    inside (mul B p w) p (rnd 53 (a.0 * b.0 * U) (U * U)) a.0 (mul_ext p w a.0 b.0 a.1 b.1) (inl (a.2, a.1)) a.2
    (le_trans (rnd-mono 53 (a.0 * b.0 * U) (U * U) a.0 1 (lit< tt) (mul-pos U_pos U_pos) (lit< tt) (shrinks a.0 b.0 b.2))
    (le_of_eq a.3))
  where
    shrinks : (a b : ℕ) → b ≤ U → a * b * U * 1 ≤ a * (U * U)
    shrinks a b h = let k = mul-le-mul_left a (mul-le-mul_right U h) in omega arith

-- ---- a quotient
-- by sizes: for a ≤ b with b above 0 and below the infinity
pub div_units : (x y : Float) (a b : ℕ) → Fine x a → Fine y b → 0 < b → a ≤ b → Share (div B x y)
div_units x y a b p q b0 l =
    inside (div B x y) f1 (rnd 53 (a * U) b) U (div_ext x y a b p q b0) unit_ext U_O
    (le_trans (rnd-mono 53 (a * U) b U 1 (lit< tt) b0 (lit< tt) (let k = mul-le-mul_right U l in omega arith)) (le_of_eq U_held.0))

pub quotient : (a b : Float) → T (fits B a) → T (fits B b) → T (le f0 a) → T (le a b) → T (lt f0 b) → T (finite b)
    → Share (div B a b)
quotient a b fa fb a0 ab b0 bf =
    let y = fine_of b fb (lt-le f0 b b0) bf in
    let x = ext_of a fa a0 in
    let l : x.0 ≤ y.0 = le_ext a b x.0 y.0 x.1 (inl (y.2, y.1)) y.2 ab in
    div_units a b x.0 y.0 (fine_under a x.0 x.1 (lt_of_le_of_lt l y.2)) y.1 (lt-nil_pos b y.0 y.1 b0) l

-- ---- shares: x and 1 - x
-- what lies that near to 1 rounds to 1
H : ℕ
H = 2 ^ 1020

below_one : rnd 53 (U - H) 1 ≡ U
unfolding U H size
below_one = refl

above_one : rnd 53 (U + H) 1 ≡ U
unfolding U H size
above_one = refl

H_U : H ≤ U
unfolding U H
H_U = lit≤ tt

twice_H : 1 * 2 ^ 1021 ≡ 2 * H
unfolding H
twice_H = refl

near_one : (n : ℕ) → U ≤ n + H → n ≤ U + H → rnd 53 n 1 ≡ U
near_one n l u =
    let h = H_U in
    le_antisymm (le_trans (rnd-mono 53 n 1 (U + H) 1 (lit< tt) (lit< tt) (lit< tt) (omega arith)) (le_of_eq above_one))
    (le_trans (le_of_eq (sym below_one)) (rnd-mono 53 (U - H) 1 n 1 (lit< tt) (lit< tt) (lit< tt) (omega arith)))

-- below 1 a number of units is rounded by no more than H
few : (z : ℕ) → z ≤ 1074 → z - 53 ≤ 1021
few z h = omega arith

drop_U : (n : ℕ) → n < U → drop 53 n 1 ≤ 1021
drop_U n h = few (size (n / 1)) (size-le (n / 1) 1074 (subst (λ (z : ℕ). n / 1 < z) U_is (lt_of_le_of_lt (omega arith) h)))

rnd_H : (n : ℕ) → n ≤ U → Near (rnd 53 n 1) n H
rnd_H n h = elim (eq-or-lt_of_le h) [
  | inl e ↦ subst (λ (z : ℕ). Near (rnd 53 z 1) z H) (sym e) (let g = U_held.0 in omega arith)
  | inr l ↦
      halve (rnd 53 n 1) n H (1 * 2 ^ drop 53 n 1) (le_trans (mul-le-mul_left 1 (pow_mono (drop_U n l))) (le_of_eq twice_H))
      (rnd_err 53 n 1 (lit< tt))
]
  where
    halve : (r n e d : ℕ) → d ≤ 2 * e → Near (2 * (r * 1)) (2 * n) d → Near r n e
    halve r n e d k p = omega arith

unit_fits : T (fits B f1)
unfolding fits
unit_fits = tt

sign_is : (s : Bool) → nn s U ≡ 0 → s ≡ false
sign_is false h = refl
sign_is true h = absurd (lt_irrefl 0 (subst (λ (z : ℕ). 0 < z) h U_pos))

pub shares : (x : Float) → T (fits B x) → T (le f0 x) → T (le x f1)
    → T (finite (sub B f1 x)) × T (le f0 (sub B f1 x)) × T (le (sub B f1 x) f1) × (add B x (sub B f1 x) ≡ f1)
shares x f x0 x1 =
    let a = share_of x f x0 x1 in
    let y = sub B f1 x in
    let b = rnd 53 (U - a.0) 1 in
    let Y : Ext y b = sub-fine f1 x U a.0 unit_fine a.1 a.2 in
    let bU : b ≤ U =
    le_trans (rnd-mono 53 (U - a.0) 1 U 1 (lit< tt) (lit< tt) (lit< tt) (mul-le-mul_right 1 (sub-le U a.0)))
    (le_of_eq U_held.0) in
    let i = inside y f1 b U Y unit_ext U_O bU in
    let n = rnd_H (U - a.0) (sub-le U a.0) in
    let e : rnd 53 (a.0 + b) 1 ≡ U = near_one (a.0 + b) (omega arith) (omega arith) in
    let S : Ext (add B x y) U = subst (λ (z : ℕ). Ext (add B x y) z) e (add_ext x y a.0 b (inl (lt_of_le_of_lt a.2 U_O, a.1)) Y) in
    let F = fine_under (add B x y) U S U_O in (
      i.0,
      i.1,
      i.2,
      unique (add B x y) f1 false U (add-fits B x y) unit_fits
          (subst (λ (s : Bool). Is (add B x y) s U) (sign_is F.0 F.2) F.1) unit_is,
    )

-- ---- a difference is no larger than the sum, and the square of their quotient is from 0 to 1
-- the difference of two values that are not negative: finite, of some sign, and no larger than their sum
record Diff (x y : Float) (a b : ℕ) : Type 0 where
  sig : Bool
  size : ℕ
  is : Is (sub B x y) sig size
  small : size ≤ rnd 53 (a + b) 1
  max : size < O

size-le_sum : (σ s t : Bool) (δ a b : ℕ) → nn s a ≡ 0 → nn t b ≡ 0 → pp σ δ + (nn s a + nn (not t) b) ≡ nn σ δ + (pp s a + pp (not t) b)
    → (δ ≤ a) ⊎ (δ ≤ b)
size-le_sum false s t δ a b p q e = inl (omega (arith, pp_is s a p, pp_is t b q, swap_pp t b, swap_nn t b))
size-le_sum true s t δ a b p q e = inr (omega (arith, pp_is s a p, pp_is t b q, swap_pp t b, swap_nn t b))

pub rnd_mono1 : (a b : ℕ) → a ≤ b → rnd 53 a 1 ≤ rnd 53 b 1
rnd_mono1 a b h = rnd-mono 53 a 1 b 1 (lit< tt) (lit< tt) (lit< tt) (omega arith)

diff : (x y : Float) (a b : ℕ) → Fine x a → Fine y b → a < O → b < O → rnd 53 a 1 ≡ a → rnd 53 b 1 ≡ b → Diff x y a b
diff x y a b p q ao bo ar br =
    let r = sum_is p.0 (not q.0) a b in
    let o = size-le_sum r.sig p.0 q.0 r.size a b p.2 q.2 r.exact in
    let e : sub B x y ≡ round B r.sig r.size U =
    sub_opens x y ∙ add_is x (neg y) p.0 (not q.0) a b p.1 (neg_is y q.0 b q.1) ∙ r.is in
    let m : rnd 53 r.size 1 < O = under r.size o in
    record {
      sig = r.sig;
      size = rnd 53 r.size 1;
      is = subst (λ (z : Float). Is z r.sig (rnd 53 r.size 1)) (sym e) (round_whole r.sig r.size m);
      small = rnd_mono1 r.size (a + b) (either r.size o);
      max = m;
    }
  where
    either : (n : ℕ) → (n ≤ a) ⊎ (n ≤ b) → n ≤ a + b
    either n (inl h) = omega arith
    either n (inr h) = omega arith

    under : (n : ℕ) → (n ≤ a) ⊎ (n ≤ b) → rnd 53 n 1 < O
    under n (inl h) = lt_of_le_of_lt (rnd_mono1 n a h) (lt_of_le_of_lt (le_of_eq ar) ao)
    under n (inr h) = lt_of_le_of_lt (rnd_mono1 n b h) (lt_of_le_of_lt (le_of_eq br) bo)

-- of either sign, and at most 1 in size
square : (q : Float) (t : Bool) (n : ℕ) → Is q t n → n ≤ U → Share (mul B q q)
square q t n h l =
    inside (mul B q q) f1 (rnd 53 (n * n * U) (U * U)) U (square_ext q t n h) unit_ext U_O
    (le_trans (rnd-mono 53 (n * n * U) (U * U) U 1 (lit< tt) (mul-pos U_pos U_pos) (lit< tt)
    (let k = mul-le-mul_right U (mul-le-mul l l) in omega arith)) (le_of_eq U_held.0))

div_by_inf : (x : Float) (s : Bool) (a : ℕ) → Is x s a → (t : Bool) × Is (div B x (inf false)) t 0
unfolding div
div_by_inf (fin u m e) s a h = (unlike u false, (refl, omega arith))
div_by_inf lib.Ieee.nan s a h = elim h [ ]
div_by_inf (inf _) s a h = elim h [ ]

div_signed : (x y : Float) (s t : Bool) (a b : ℕ) → Is x s a → Is y t b → 0 < b → a ≤ b
    → Is (div B x y) (unlike s t) (rnd 53 (a * U) b) × (rnd 53 (a * U) b ≤ U)
div_signed x y s t a b h k b0 l =
    let u : rnd 53 (a * U) b ≤ U =
    le_trans (rnd-mono 53 (a * U) b U 1 (lit< tt) b0 (lit< tt) (let k = mul-le-mul_right U l in omega arith))
    (le_of_eq U_held.0) in (
      subst (λ (z : Float). Is z (unlike s t) (rnd 53 (a * U) b)) (sym (div_is x y s t a b h k b0))
          (round_units (unlike s t) a b (lt_of_le_of_lt u U_O)),
      u,
    )

pub contrast : (x y : Float) → T (fits B x) → T (fits B y) → T (le f0 x) → T (finite x) → T (le f0 y) → T (finite y) → T (lt f0 (add B x y))
    → let q = div B (sub B x y) (add B x y) in Share (mul B q q)
contrast x y fx fy x0 xf y0 yf S0 =
    let a = fine_of x fx x0 xf in
    let b = fine_of y fy y0 yf in
    let d = diff x y a.0 b.0 a.1 b.1 a.2 b.2 a.3 b.3 in
    go d (rnd 53 (a.0 + b.0) 1) refl (add_ext x y a.0 b.0 (inl (a.2, a.1)) (inl (b.2, b.1)))
  where
    go : {a b : ℕ} (d : Diff x y a b) (S : ℕ) → rnd 53 (a + b) 1 ≡ S → Ext (add B x y) S
        → let q = div B (sub B x y) (add B x y) in Share (mul B q q)
    go d S e (inl p) =
        let r =
        div_signed (sub B x y) (add B x y) d.sig p.1.0 d.size S d.is p.1.1 (lt-nil_pos (add B x y) S p.1 S0)
        (le_trans d.small (le_of_eq e)) in
        square (div B (sub B x y) (add B x y)) (unlike d.sig p.1.0) (rnd 53 (d.size * U) S) r.0 r.1
    go d S e (inr p) =
        let r = div_by_inf (sub B x y) d.sig d.size d.is in
        square (div B (sub B x y) (add B x y)) r.0 0
        (subst (λ (z : Float). Is (div B (sub B x y) z) r.0 0) (sym p.1) r.1) zero-le

pub f1-share : Share f1
unfolding le
f1-share = (tt, tt, tt)

pub f0-share : Share f0
unfolding le
f0-share = (tt, tt, tt)
