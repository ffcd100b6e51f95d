-- The order of sums, products and quotients of values that are not negative, the infinity included.
-- Proved: `<=` is transitive on the values of the format (`le_trans-fits`); + and * keep it
-- (`add-mono`, `mul_mono`), a quotient grows with x and shrinks with y (`div_sizes`);
-- so 1 / (1 + s + t) <= 1 / (1 + s) <= 1 (`damping`), and the quotient of the two
-- is from 0 to 1 (`ratio`). By units: rounding keeps the order.
use Rattle.std.proofs.Common.{◌≡◌, sym, subst, inl, inr, ℕ, ◌+◌, ◌*◌, ◌≤◌, ◌<◌, zero-le, le_refl, le_trans, le_of_eq, lt_of_le_of_lt, lt_of_lt_of_le, lt_irrefl, le_of_lt, mul-le-mul_right, mul-le-mul, mul-pos, add-le-add, le-add_right, arith, Bool, true, false, T, lit<, Float}
use lib.Ieee.{inf, fin, Format, binary64, add, mul, div, le, lt, fits}
use lib.Ieee.Fits.{div-fits}
use lib.Ieee.Scale.{finite}
use Rattle.floats.proofs.Rounding.{rnd, rnd_idem, rnd-mono}
use Rattle.floats.proofs.Rounding.Units.{U, O, U_pos, U_O, mag, is_of, Below, le_of_below, below_of-le}
use Rattle.floats.proofs.Rounding.NonNegative.{Fine, Ext, ext_of, ext_le, le_ext, unit_ext, mul_ext, div_ext, div_inf, add_ext, fine_of, inside, fine_under, U_held, rnd_O, unit_fine}
use Rattle.floats.proofs.Rounding.Shares.{div_units, rnd_mono1, quotient, Share}
use Rattle.floats.specs.Float.{f1, f0}

abbrev B : Format
B = binary64

-- ---- the order is transitive
below_trans : (s t r : Bool) (a b c : ℕ) → Below s a t b → Below t b r c → Below s a r c
below_trans s t r a b c h k = omega arith

nil-fits : T (fits B f0)
unfolding fits
nil-fits = tt

pub le_trans-fits : (x y z : Float) → T (fits B x) → T (fits B y) → T (fits B z) → T (le x y) → T (le y z) → T (le x z)
unfolding le
le_trans-fits (inf true) (inf t) (inf true) f g h p q = tt
le_trans-fits (inf true) (inf t) (inf false) f g h p q = tt
le_trans-fits (inf false) (inf false) (inf r) f g h p q = q
le_trans-fits (inf true) (inf t) (fin r k c) f g h p q = tt
le_trans-fits (inf true) (fin t n d) (inf true) f g h p q = tt
le_trans-fits (inf true) (fin t n d) (inf false) f g h p q = tt
le_trans-fits (inf true) (fin t n d) (fin r k c) f g h p q = tt
le_trans-fits (fin s m e) (inf false) (inf false) f g h p q = tt
le_trans-fits (fin s m e) (fin t n d) (inf r) f g h p q = q
le_trans-fits (fin s m e) (fin t n d) (fin r k c) f g h p q =
    let x = fin s m e in
    let y = fin t n d in
    let z = fin r k c in
    let a = (is_of x tt f).0 in
    let b = (is_of y tt g).0 in
    let c = (is_of z tt h).0 in
    le_of_below x z s r (mag x) (mag z) a c
    (below_trans s t r (mag x) (mag y) (mag z) (below_of-le x y s t (mag x) (mag y) a b p) (below_of-le y z t r (mag y) (mag z) b c q))
le_trans-fits lib.Ieee.nan y z f g h p q = elim p [ ]
le_trans-fits (inf false) lib.Ieee.nan z f g h p q = elim p [ ]
le_trans-fits (inf false) (inf false) lib.Ieee.nan f g h p q = elim q [ ]
le_trans-fits (inf false) (inf false) (fin r k c) f g h p q = elim q [ ]
le_trans-fits (inf false) (inf true) z f g h p q = elim p [ ]
le_trans-fits (inf false) (fin t n d) z f g h p q = elim p [ ]
le_trans-fits (inf true) lib.Ieee.nan z f g h p q = elim p [ ]
le_trans-fits (inf true) (inf t) lib.Ieee.nan f g h p q = elim q [ ]
le_trans-fits (inf true) (fin t n d) lib.Ieee.nan f g h p q = elim q [ ]
le_trans-fits (fin s m e) lib.Ieee.nan z f g h p q = elim p [ ]
le_trans-fits (fin s m e) (inf false) lib.Ieee.nan f g h p q = elim q [ ]
le_trans-fits (fin s m e) (inf false) (inf true) f g h p q = elim q [ ]
le_trans-fits (fin s m e) (inf false) (fin r k c) f g h p q = elim q [ ]
le_trans-fits (fin s m e) (inf true) z f g h p q = elim p [ ]
le_trans-fits (fin s m e) (fin t n d) lib.Ieee.nan f g h p q = elim q [ ]

-- ---- sizes, the infinity's being O
pub size_of : (x : Float) → T (fits B x) → T (le f0 x) → (a : ℕ) × Ext x a × (rnd 53 a 1 ≡ a) × (a ≤ O)
size_of x f h = let e = ext_of x f h in go e.0 e.1 e.2
  where
    go : (a : ℕ) → Ext x a → rnd 53 a 1 ≡ a → (a : ℕ) × Ext x a × (rnd 53 a 1 ≡ a) × (a ≤ O)
    go a (inl p) r = (a, inl p, r, le_of_lt p.0)
    go a (inr p) r = (O, inr (le_refl O, p.1), rnd_O, le_refl O)

pub sizes_le : (x y : Float) (a b : ℕ) → Ext x a → Ext y b → a ≤ O → T (le x y) → a ≤ b
sizes_le x y a b p (inl q) o h = le_ext x y a b p (inl q) q.0 h
sizes_le x y a b p (inr q) o h = le_trans o q.0

pub add-mono : (x x' y y' : Float) → T (fits B x) → T (fits B x') → T (fits B y) → T (fits B y') → T (le f0 x) → T (le f0 y) → T (le x x')
    → T (le y y') → T (le (add B x y) (add B x' y'))
add-mono x x' y y' fx fx' fy fy' x0 y0 h k =
    let a = size_of x fx x0 in
    let a' = size_of x' fx' (le_trans-fits f0 x x' nil-fits fx fx' x0 h) in
    let b = size_of y fy y0 in
    let b' = size_of y' fy' (le_trans-fits f0 y y' nil-fits fy fy' y0 k) in
    let l = sizes_le x x' a.0 a'.0 a.1 a'.1 a.3 h in
    let r = sizes_le y y' b.0 b'.0 b.1 b'.1 b.3 k in
    ext_le (add B x y) (add B x' y') (rnd 53 (a.0 + b.0) 1) (rnd 53 (a'.0 + b'.0) 1) (add_ext x y a.0 b.0 a.1 b.1)
    (add_ext x' y' a'.0 b'.0 a'.1 b'.1) (rnd_mono1 (a.0 + b.0) (a'.0 + b'.0) (add-le-add l r))

-- products of finite values
pub mul_mono : (x x' y y' : Float) → T (fits B x) → T (fits B x') → T (fits B y) → T (fits B y') → T (le f0 x) → T (le f0 y) → T (finite x')
    → T (finite y') → T (le x x') → T (le y y') → T (le (mul B x y) (mul B x' y'))
mul_mono x x' y y' fx fx' fy fy' x0 y0 hx hy h k =
    let a = size_of x fx x0 in
    let a' = fine_of x' fx' (le_trans-fits f0 x x' nil-fits fx fx' x0 h) hx in
    let b = size_of y fy y0 in
    let b' = fine_of y' fy' (le_trans-fits f0 y y' nil-fits fy fy' y0 k) hy in
    let l = sizes_le x x' a.0 a'.0 a.1 (inl (a'.2, a'.1)) a.3 h in
    let r = sizes_le y y' b.0 b'.0 b.1 (inl (b'.2, b'.1)) b.3 k in
    let UU = mul-pos U_pos U_pos in
    ext_le (mul B x y) (mul B x' y') (rnd 53 (a.0 * b.0 * U) (U * U)) (rnd 53 (a'.0 * b'.0 * U) (U * U))
    (mul_ext x y a.0 b.0 (fine_under x a.0 a.1 (lt_of_le_of_lt l a'.2))
    (fine_under y b.0 b.1 (lt_of_le_of_lt r b'.2)))
    (mul_ext x' y' a'.0 b'.0 a'.1 b'.1)
    (rnd-mono 53 (a.0 * b.0 * U) (U * U) (a'.0 * b'.0 * U) (U * U) (lit< tt) UU UU
    (mul-le-mul_right (U * U) (mul-le-mul_right U (mul-le-mul l r))))

-- a quotient grows with x and shrinks with y, up to the infinity
pub div_sizes : (x x' y y' : Float) (a a' b b' : ℕ) → Fine x a → Fine x' a' → Ext y b → Ext y' b' → 0 < b' → a ≤ a' → b' ≤ b
    → T (le (div B x y) (div B x' y'))
div_sizes x x' y y' a a' b b' p p' (inl q) (inl q') B' h k =
    let B0 = lt_of_lt_of_le B' k in
    ext_le (div B x y) (div B x' y') (rnd 53 (a * U) b) (rnd 53 (a' * U) b') (div_ext x y a b p q.1 B0)
    (div_ext x' y' a' b' p' q'.1 B')
    (rnd-mono 53 (a * U) b (a' * U) b' (lit< tt) B0 B' (mul-le-mul (mul-le-mul_right U h) k))
div_sizes x x' y y' a a' b b' p p' (inr q) (inl q') B' h k =
    ext_le (div B x y) (div B x' y') 0 (rnd 53 (a' * U) b') (subst (λ (z : Float). Ext (div B x z) 0) (sym q.1) (div_inf x a p))
    (div_ext x' y' a' b' p' q'.1 B') zero-le
div_sizes x x' y y' a a' b b' p p' (inl q) (inr q') B' h k = absurd (lt_irrefl O (lt_of_le_of_lt q'.0 (lt_of_le_of_lt k q.0)))
div_sizes x x' y y' a a' b b' p p' (inr q) (inr q') B' h k =
    ext_le (div B x y) (div B x' y') 0 0 (subst (λ (z : Float). Ext (div B x z) 0) (sym q.1) (div_inf x a p))
    (subst (λ (z : Float). Ext (div B x' z) 0) (sym q'.1) (div_inf x' a' p')) zero-le

-- ---- 1 / (1 + s + t) ≤ 1 / (1 + s) ≤ 1
-- 1 / y for a y from 1 up
pub recip-le : (y : Float) (b : ℕ) → Ext y b → U ≤ b → Share (div B f1 y)
recip-le y b (inl q) h = div_units f1 y U b unit_fine q.1 (lt_of_lt_of_le U_pos h) h
recip-le y b (inr q) h =
    inside (div B f1 y) f1 0 U (subst (λ (z : Float). Ext (div B f1 z) 0) (sym q.1) (div_inf f1 U unit_fine)) unit_ext U_O zero-le

module _ (s t : Float) (fs : T (fits B s)) (ft : T (fits B t)) (s0 : T (le f0 s)) (t0 : T (le f0 t)) where
  abbrev g₁ : Float
  g₁ = div B f1 (add B f1 s)

  abbrev g : Float
  g = div B f1 (add B (add B f1 s) t)

  pub damping : (T (finite g) × T (le f0 g)) × T (le g g₁) × T (le g₁ f1) × T (finite g₁)
  damping =
      let a = size_of s fs s0 in
      let b = size_of t ft t0 in
      let A = rnd 53 (U + a.0) 1 in
      let X : Ext (add B f1 s) A = add_ext f1 s U a.0 unit_ext a.1 in
      let UA : U ≤ A = le_trans (le_of_eq (sym U_held.0)) (rnd_mono1 U (U + a.0) (le-add_right U a.0)) in
      let A2 = rnd 53 (A + b.0) 1 in
      let Y : Ext (add B (add B f1 s) t) A2 = add_ext (add B f1 s) t A b.0 X b.1 in
      let AA : A ≤ A2 =
      le_trans (le_of_eq (sym (rnd_idem 53 (U + a.0) 1 (lit< tt) (lit< tt))))
      (rnd_mono1 A (A + b.0) (le-add_right A b.0)) in
      let r1 = recip-le (add B f1 s) A X UA in
      let r2 = recip-le (add B (add B f1 s) t) A2 Y (le_trans UA AA) in (
        (r2.0, r2.1),
        div_sizes f1 f1 (add B (add B f1 s) t) (add B f1 s) U U A2 A unit_fine unit_fine Y X (lt_of_lt_of_le U_pos UA)
            (le_refl U) AA,
        r1.2,
        r1.0,
      )

  -- where g₁ is not 0 the quotient is from 0 to 1
  pub ratio : T (lt f0 g₁) → Share (div B g g₁)
  ratio h = let d = damping in quotient g g₁ (div-fits B f1 (add B (add B f1 s) t)) (div-fits B f1 (add B f1 s)) d.0.1 d.1 h d.3
