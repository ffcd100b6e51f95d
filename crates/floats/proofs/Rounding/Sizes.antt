-- Floats that are finite and at most k in size, `Upto k x`, and what the operations keep of it.
-- Proved: an expression of + - * over such floats is one, with the bound computed (`expression`); so are the root of a value that is
-- not negative (`root_upto`, `root_max`), half of one, the negative of one (`half`, `neg_upto`), and a quotient by a divisor that is
-- away from 0 (`divide`). `N x ≡ 0` says that a finite x is not below 0; what fails or passes a test is in parts P x - N x
-- (`nlt_parts`, `lt-zero`, `not_neg`). By Expression, WholeRoot and the order of rounded quotients.
use Rattle.std.proofs.Common.{◌≡◌, refl, sym, ap, ◌∙◌, subst, inl, inr, Bool, true, false, not, cond, ℕ, zero, suc, ◌+◌, ◌-◌, ◌*◌, ◌^◌, ◌≤◌, ◌<◌, zero-le, le_trans, le_of_eq, lt_of_le_of_lt, lt_of_lt_of_le, lt_irrefl, mul-le-mul_right, mul-le-mul_left, mul-le-mul, mul-pos, mul-zero, one-mul, zero-lt-suc, arith, ℤ, T, ltb, ltb→lt, nltb→le, lit≤, lit<, pow-add, pow_mono, Float}
use mathlib.Core.List.{List, [], ◌∷◌}
use lib.Ieee.{nan, inf, fin, Format, binary64, unlike, up, down, below, is_nan, round, neg, le, lt, fits}
use lib.Ieee.Fits.{up_pos, down_pos}
use Rattle.floats.proofs.Rounding.{rnd, rnd_fix, below_or_from}
use Rattle.floats.proofs.Rounding.Units.{U, O, U_is, U_pos, Is, is_of, sign, mag, Below, move, div_is, round_units, round_over, units_pos, le-finite, zero_units, over, over'}
use Rattle.floats.proofs.Rounding.NonNegative.{Ext, none_below, rnd-le, Fine, fine_under}
use Rattle.floats.proofs.Rounding.Error.{Fin, P, N, M, le_parts, neg_parts, sum_mag, unit_fin, m1_is, one_side, sized, div_sized, parts}
use Rattle.floats.proofs.square_root.WholeRoot.{RootErr}
use Rattle.floats.proofs.Rounding.SignedPoly.{ab, Q, Bd, from_bd}
use Rattle.floats.proofs.Rounding.Expression.{rv, pow1, Fl, flo, mg, tame, closed, Vars, sound, size-mag}
use Rattle.floats.proofs.square_root.RootOrZero.{max_pos, rooted}
use Rattle.floats.specs.Float.{◌⊘◌, f0, f1, f2, f_1, max}
use Rattle.floats.specs.SquareRoot.{sqrt, square_root}

abbrev B : Format
B = binary64

-- ---- finite, and at most k in size
pub record Upto (k : ℕ) (x : Float) : Type 0 where
  pub fin : Fin x
  pub size : mag x ≤ k * U

pub widen : (k l : ℕ) (x : Float) → k ≤ l → Upto k x → Upto l x
widen k l x h u = record { fin = u.fin; size = le_trans u.size (mul-le-mul_right U h) }

-- the bound as a numeral
pub upto_bd : (k : ℕ) (x : Float) → Upto k x → Bd 1 (rv x) (k * Q)
upto_bd k x h = rw (size-mag x, pow1) (go (mag x) U h.size)
  where
    go : (m u : ℕ) → m ≤ k * u → Q * m ≤ k * Q * u
    go m u h = omega (arith, mul-le-mul_left Q h)

pub bd_upto : (k : ℕ) (x : Float) (c : ℕ) → Fin x → Bd 1 (rv x) c → c ≤ k * Q → Upto k x
bd_upto k x c f h g =
    let bound = from_bd (ab (rv x)) c k U (subst (λ (z : ℕ). Q * ab (rv x) ≤ c * z) pow1 h) g in
    record { fin = f; size = le_trans (le_of_eq (sym (size-mag x))) bound }

-- ---- an expression over such floats
abbrev pub Sized : List Float → List ℕ → Type 0
Sized [] [] = Unit {0}
Sized [] (k ∷ κ) = ⊥
Sized (x ∷ ρ) [] = ⊥
Sized (x ∷ ρ) (k ∷ κ) = Upto k x × Sized ρ κ

abbrev pub limits : List ℕ → List ℕ
limits [] = []
limits (k ∷ κ) = k * Q ∷ limits κ

pub vars_of : (ρ : List Float) (κ : List ℕ) → Sized ρ κ → Vars ρ (limits κ)
vars_of [] [] h = tt
vars_of [] (k ∷ κ) h = absurd h
vars_of (x ∷ ρ) [] h = absurd h
vars_of (x ∷ ρ) (k ∷ κ) h = (h.0.fin, upto_bd k x h.0, vars_of ρ κ h.1)

pub expression : (k : ℕ) (ρ : List Float) (κ : List ℕ) (e : Fl) → Sized ρ κ → T (closed (limits κ) e) → T (tame (limits κ) e)
    → mg (limits κ) e ≤ k * Q
    → Upto k (flo ρ e)
expression k ρ κ e h c t m = let s = sound ρ (limits κ) e (vars_of ρ κ h) c t in bd_upto k (flo ρ e) (mg (limits κ) e) s.fin s.most m

-- ---- constants
pub f1_upto : Upto 1 f1
unfolding lib.Ieee.fits U
f1_upto = record { fin = (tt, tt); size = lit≤ tt }

pub f2_upto : Upto 2 f2
unfolding lib.Ieee.fits U
f2_upto = record { fin = (tt, tt); size = lit≤ tt }

pub f0_upto : Upto 0 f0
unfolding lib.Ieee.fits U
f0_upto = record { fin = (tt, tt); size = lit≤ tt }

pub f_1_upto : Upto 1 f_1
unfolding lib.Ieee.fits U
f_1_upto = record { fin = (tt, tt); size = lit≤ tt }

pub f1_parts : (P f1 ≡ U) × (N f1 ≡ 0)
unfolding P N U
f1_parts = (refl, refl)

pub f0_parts : (P f0 ≡ 0) × (N f0 ≡ 0) × (mag f0 ≡ 0)
unfolding P N U
f0_parts = (refl, refl, refl)

pub f2_units : 1 * 2 ^ 1 * U ≡ 2 * U * 1
unfolding U
f2_units = refl

-- ---- the negative
pub mag-neg : (x : Float) → mag (neg x) ≡ mag x
unfolding neg
mag-neg nan = refl
mag-neg (inf s) = refl
mag-neg (fin s m e) = refl

pub neg_upto : (k : ℕ) (x : Float) → Upto k x → Upto k (neg x)
neg_upto k x h = record { fin = (neg_parts x h.fin).0; size = le_trans (le_of_eq (mag-neg x)) h.size }

-- ---- parts: one of the two is 0
-- from a number that is not negative on
pub zero_N : (p n a b : ℕ) → a + n ≤ p + b → b ≡ 0 → p + n ≡ (p - n) + (n - p) → n ≡ 0
zero_N p n a b h k l = omega arith

pub not_neg : (x : Float) → Fin x → T (le f0 x) → N x ≡ 0
not_neg x f h = zero_N (P x) (N x) (P f0) (N f0) (le_parts f0 x f0_upto.fin f h) f0_parts.1 (one_side x)

-- from -1 to 1
pub up_to_one : (p n a b c d u : ℕ) → a + n ≤ p + b → p + d ≤ c + n → a ≡ 0 → b ≡ u → c ≡ u → d ≡ 0 → p + n ≡ (p - n) + (n - p)
    → p + n ≤ 1 * u
up_to_one p n a b c d u h₁ h₂ h₃ h₄ h₅ h₆ h₇ = omega arith

pub upto_one : (x : Float) → Fin x → P f_1 + N x ≤ P x + N f_1 → P x + N f1 ≤ P f1 + N x → Upto 1 x
upto_one x f h k =
    let le-one = up_to_one (P x) (N x) (P f_1) (N f_1) (P f1) (N f1) U h k m1_is.0 m1_is.1 f1_parts.0 f1_parts.1 (one_side x) in
    record { fin = f; size = le_trans (le_of_eq (sym (sum_mag x))) le-one }

pub in_disk : (x : Float) → T (fits B x) → T (le f_1 x) → T (le x f1) → Upto 1 x
in_disk x f h k =
    let g : Fin x = (le-finite f_1 x f1 tt tt h k, f) in
    upto_one x g (le_parts f_1 x (unit_fin true) g h) (le_parts x f1 g (unit_fin false) k)

-- ---- tests that fail, and one that passes
nlt_below : (u v : Bool) (x y : ℕ) → T (not (below u x v y)) → Below v y u x
nlt_below false false x y t = let h = nltb→le x y t in omega arith
nlt_below false true x y t = omega arith
nlt_below true false x y t = let h = nltb→le 0 (x + y) t in omega arith
nlt_below true true x y t = let h = nltb→le y x t in omega arith

pub nlt_parts : (x y : Float) → Fin x → Fin y → T (not (lt x y)) → P y + N x ≤ P x + N y
unfolding P N lt
nlt_parts nan y f g t = absurd f.0
nlt_parts (inf s) y f g t = absurd f.0
nlt_parts (fin u m e) nan f g t = absurd g.0
nlt_parts (fin u m e) (inf s) f g t = absurd g.0
nlt_parts (fin u m e) (fin v n d) f g t =
    let a = mag (fin u m e) in
    let b = mag (fin v n d) in
    let h = (is_of (fin u m e) tt f.1).0 in
    let k = (is_of (fin v n d) tt g.1).0 in
    let x = over (m * up e) a (down e) (down d) h.1 in
    let y = over' (n * up d) b (down e) (down d) k.1 in
    move v u (n * up d * down e) (m * up e * down d) b a (down e * down d) U (mul-pos (down_pos e) (down_pos d)) (sym y) (sym x)
    (nlt_below u v (m * up e * down d) (n * up d * down e) t)

pub lt-zero : (z : Float) → Fin z → T (lt z f0) → P z ≡ 0
unfolding lt P
lt-zero nan f t = absurd t
lt-zero (inf s) f t = absurd f.0
lt-zero (fin true m e) f t = refl
lt-zero (fin false m e) f t = absurd (none_below (m * up e * 1) (down e) (ltb→lt (m * up e * 1) (0 * 1 * down e) t))

pub fine_N : (x : Float) → Fin x → N x ≡ 0 → Fine x (mag x)
unfolding N
fine_N x f n = (sign x, (is_of x f.0 f.1).0, n)

-- ---- not below 0, and finite
pub held_O : (x : Float) → Fin x → mag x < O
held_O x f = (is_of x f.0 f.1).1.1

pub ext_N : (x : Float) → Fin x → N x ≡ 0 → Ext x (mag x)
ext_N x f n = inl (held_O x f, fine_N x f n)

-- what `Ext` tells below the infinity
pub record Pos (x : Float) (n : ℕ) : Type 0 where
  pub fin : Fin x
  pub is : mag x ≡ n
  pub zero_N : N x ≡ 0

pub pos_of : (x : Float) (n : ℕ) → T (fits B x) → Ext x n → n < O → Pos x n
pos_of x n f e l =
    let h = fine_under x n e l in
    let s = sized x h.0 n f h.1 in
    record { fin = s.0; is = s.1; zero_N = (parts x h.0 n s.0 h.1).1 ∙ h.2 }

pub record NonNeg (k : ℕ) (x : Float) : Type 0 where
  pub up : Upto k x
  pub nn0 : N x ≡ 0

pub pos_N : (m : ℕ) (e : ℤ) → N (fin false m e) ≡ 0
unfolding N
pos_N m e = refl

neg-size : (m : ℕ) (e : ℤ) → N (fin true m e) ≡ mag (fin true m e)
unfolding N
neg-size m e = refl

-- the units of something that the comparison sees as zero
none : (m : ℕ) (e : ℤ) → Fin (fin true m e) → m * up e * 1 + 0 * 1 * down e ≤ 0 → mag (fin true m e) ≡ 0
none zero e f h = go (mag (fin true zero e)) (is_of (fin true zero e) f.0 f.1).0.1
  where
    go : (n : ℕ) → 0 * up e * U ≡ n * down e → n ≡ 0
    go zero q = refl
    go (suc n) q = absurd (zero_units (suc n) e (zero-lt-suc n) q)
none (suc m) e f h = omega (arith, mul-pos (zero-lt-suc m) (up_pos e))

pub max-zero : (k : ℕ) (y : Float) → Upto k y → NonNeg k (max y f0)
unfolding max is_nan lt
max-zero k nan h = absurd h.fin.0
max-zero k (inf s) h = absurd h.fin.0
max-zero k (fin false m e) h = subst (λ (z : Float). NonNeg k z) (sym (max_pos m e)) (record { up = h; nn0 = pos_N m e })
max-zero k (fin true m e) h = go (ltb 0 (m * up e * 1 + 0 * 1 * down e)) (nltb→le 0 (m * up e * 1 + 0 * 1 * down e))
  where
    go : (b : Bool) → (T (not b) → m * up e * 1 + 0 * 1 * down e ≤ 0) → NonNeg k (cond b f0 (fin true m e))
    go true f = record { up = record { fin = f0_upto.fin; size = le_trans (le_of_eq f0_parts.2) zero-le }; nn0 = f0_parts.1 }
    go false f = record { up = h; nn0 = neg-size m e ∙ none m e h.fin (f tt) }

-- ---- roots of what is not negative
no_neg : (m : ℕ) (e : ℤ) → Fin (fin true (suc m) e) → mag (fin true (suc m) e) ≡ 0 → ⊥
no_neg m e f h =
    let zero-size : suc m * up e * U ≡ 0 = (is_of (fin true (suc m) e) f.0 f.1).0.1 ∙ ap (λ (z : ℕ). z * down e) h ∙ omega arith in
    lt_irrefl 0 (subst (λ (z : ℕ). 0 < z) zero-size (mul-pos (mul-pos (zero-lt-suc m) (up_pos e)) U_pos))

root-zero : (s : Bool) (e : ℤ) → sqrt (fin s zero e) ≡ fin s zero e
unfolding square_root
root-zero s e = refl

root_units_lem : (n ρ k : ℕ) → RootErr n ρ → n ≤ k * U → ρ ≤ (2 * k + 3) * U
root_units_lem n ρ k e h =
    omega (arith, le-R e.R (le_trans e.low (mul-le-mul_right U h)), rough ρ e.m e.near.0)
  where
    le-R : (R : ℕ) → R * R ≤ k * U * U → R ≤ (k + 1) * U
    le-R R h = elim (below_or_from ((k + 1) * U) R) [ inl l ↦ omega (arith, mul-le-mul l l) | inr g ↦ g ]

    rough : (ρ m : ℕ) → M * (2 * ρ) ≤ M * m + m → ρ ≤ m
    rough ρ m h = omega arith

pub root_upto : (k : ℕ) (y : Float) → Upto k y → N y ≡ 0 → Upto (2 * k + 3) (sqrt y)
root_upto k nan h n = absurd h.fin.0
root_upto k (inf s) h n = absurd h.fin.0
root_upto k (fin s zero e) h n =
    subst (λ (z : Float). Upto (2 * k + 3) z) (sym (root-zero s e)) (widen k (2 * k + 3) (fin s zero e) (omega arith) h)
root_upto k (fin true (suc m) e) h n = absurd (no_neg m e h.fin (sym (neg-size (suc m) e) ∙ n))
root_upto k (fin false (suc m) e) h n =
    let y = fin false (suc m) e in
    let i = is_of y h.fin.0 h.fin.1 in
    let p = units_pos m (mag y) e i.0.1 in
    let r = rooted y (mag y) h.fin.1 i.0 p i.1.1 in
    record { fin = r.fin; size = root_units_lem (mag y) (mag (sqrt y)) k r.err h.size }

pub root_max : (k : ℕ) (y : Float) → Upto k y → Upto (2 * k + 3) (sqrt (max y f0))
root_max k y h = let m = max-zero k y h in root_upto k (max y f0) m.up m.nn0

-- ---- quotients
-- a number: no NaN
abbrev pub Number : Float → Type 0
Number x = T (not (is_nan x))

pub is_number : (x : Float) (s : Bool) (n : ℕ) → Is x s n → Number x
unfolding is_nan
is_number nan s n h = absurd h
is_number (inf t) s n h = tt
is_number (fin t m e) s n h = tt

inf_number : (s : Bool) → Number (inf s)
unfolding is_nan
inf_number s = tt

pub round_number : (s : Bool) (a c : ℕ) → Number (round B s a c)
round_number s a c = elim (below_or_from (rnd 53 (a * U) c) O) [
  | inl l ↦ is_number (round B s a c) s (rnd 53 (a * U) c) (round_units s a c l)
  | inr h ↦ subst (λ (z : Float). Number z) (sym (round_over s a c h)) (inf_number s)
]

pub div-number : (x y : Float) → Fin x → Fin y → 0 < mag y → Number (x ⊘ y)
div-number x y f h p =
    let ix = (is_of x f.0 f.1).0 in
    let iy = (is_of y h.0 h.1).0 in
    let s = unlike (sign x) (sign y) in
    subst (λ (z : Float). Number z) (sym (div_is x y (sign x) (sign y) (mag x) (mag y) ix iy p)) (round_number s (mag x) (mag y))

-- a quotient whose rounded size is at most the overflow
quotient_upto : (k : ℕ) (x y : Float) → Fin x → Fin y → 0 < mag y → k * U < O → rnd 53 (mag x * U) (mag y) ≤ k * U → Upto k (x ⊘ y)
quotient_upto k x y f g p o l =
    let q = div_sized x y f g p (lt_of_le_of_lt l o) in record { fin = q.0; size = le_trans (le_of_eq q.1) l }

-- a whole number that rounding leaves alone, below the overflow: a power of two
abbrev pub Held : ℕ → Type 0
Held k = (rnd 53 (k * U) 1 ≡ k * U) × (k * U < O)

room : 2 ^ 1174 < O
unfolding O
room = lit< tt

pub held_power : (n : ℕ) → n ≤ 100 → Held (2 ^ n)
held_power n h =
    let e : 2 ^ (n + 1074) ≡ 2 ^ n * U = pow-add 2 n 1074 ∙ ap (λ (z : ℕ). 2 ^ n * z) (sym U_is) in
    let fixed = rnd_fix 53 1 (n + 1074) (lit< tt) in
    (subst (λ (z : ℕ). rnd 53 z 1 ≡ z) (one-mul (2 ^ (n + 1074)) ∙ e) fixed, subst (λ (z : ℕ). z < O) e (lt_of_le_of_lt (pow_mono (more n h)) room))
  where
    more : (n : ℕ) → n ≤ 100 → n + 1074 ≤ 1174
    more n h = omega arith

f2-mag : mag f2 ≡ 2 * U
unfolding U
f2-mag = refl

-- half of what is at most 4
pub half : (x : Float) → Upto 4 x → Upto 4 (x ⊘ f2)
half x h =
    let p : 0 < 2 * U = mul-pos (lit< tt) U_pos in
    let o = held_power 2 (lit≤ tt) in
    let l = rnd-le (4 * U) (mag x * U) (2 * U) p o.0 (omega (arith, mul-le-mul_right U h.size)) in
    quotient_upto 4 x f2 h.fin f2_upto.fin (subst (λ (z : ℕ). 0 < z) (sym f2-mag) p) o.1 (rw f2-mag l)

-- a factor of a product above 0
pub factor_pos : (l b : ℕ) → 0 < l * b → 0 < b
factor_pos l zero h = absurd (lt_irrefl 0 (subst (λ (z : ℕ). 0 < z) (mul-zero l) h))
factor_pos l (suc b) h = zero-lt-suc b

-- by a divisor of at least 1 / l
pub divide : (k l : ℕ) (x y : Float) → Held (k * l) → Upto k x → Fin y → U ≤ l * mag y → Upto (k * l) (x ⊘ y)
divide k l x y o h f low =
    let p = factor_pos l (mag y) (lt_of_lt_of_le U_pos low) in
    let r = rnd-le (k * l * U) (mag x * U) (mag y) p o.0 (omega (arith, mul-le-mul h.size low)) in
    quotient_upto (k * l) x y h.fin f p o.1 r
