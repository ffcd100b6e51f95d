-- The values of binary64 that are not negative, the infinity and both zeros included, as natural numbers
-- of units: `Ext x a`, from O units on the infinity; `Fine x a` for the finite ones.
-- Proved: what the test `0.0 <= x` tells (`ext_of`, `fine_of`, `share_of`), the order by units (`ext_le`, `le_ext`), and a sum,
-- a difference, a product and a quotient by units (`add_ext`, `sub-fine`, `mul_ext`, `div_ext`, `div_inf`); whole numbers (`int_is`).
-- Each goes by the signs of the two values to the law of Units, and by whether the result is below O.
use Rattle.std.proofs.Common.{◌≡◌, refl, sym, ap, ◌∙◌, subst, ◌⊎◌, inl, inr, ℕ, ◌+◌, ◌-◌, ◌*◌, ◌^◌, ◌≤◌, ◌<◌, zero-le, le_refl, le_trans, le_of_eq, lt_of_le_of_lt, lt_irrefl, mul-one, mul_right_comm, zero-mul, mul-pos, arith, Bool, true, false, not, true≢false, T, ltb→lt, lit<, lt→ltb, pos, Float}
use lib.Ieee.{nan, inf, fin, Format, binary64, unlike, up, down, round, neg, sum, add, sub, mul, div, le, lt, eq, of_int, fits}
use lib.Ieee.Back.{round_whole}
use lib.Ieee.Exact.{HasValue}
use lib.Ieee.Fits.{down_pos}
use lib.Ieee.Scale.{finite}
use lib.Ieee.Positive.{first_pos}
use Rattle.floats.proofs.Rounding.{rnd, rnd_fix, rnd-mono, rnd_same, below_or_from}
use Rattle.floats.proofs.Rounding.Units.{U, O, U_pos, U_O, Is, sign, mag, Held, is_of, is_same, is_finite_lem, pp, nn, Below, le_of_below, below_of-le, round_units, round_over, rnd_U, neg_is, mul_is, div_is, add_is, Sum, sum_is, sub_opens, either, pp_is, swap_pp, swap_nn}
use Rattle.floats.specs.Float.{f1, f0}

abbrev B : Format
B = binary64

pub nil_is : Is f0 false 0
nil_is = (refl, omega arith)

pub unit_is : Is f1 false U
unit_is = (refl, omega arith)

-- a whole number as a float
rescale : (x : Float) (s : Bool) (q : ℕ) → HasValue x s q 1 → Is x s (q * U)
rescale (fin t m e) s q h = (h.0, ap (λ (z : ℕ). z * U) (sym (mul-one (m * up e)) ∙ h.1) ∙ mul_right_comm q (down e) U)
rescale nan s q h = elim h [ ]
rescale (inf _) s q h = elim h [ ]

pub int_is : (q : ℕ) → q ≤ 2 ^ 53 → Is (of_int B (pos q)) false (q * U)
unfolding of_int
int_is q h = rescale (round B false q 1) false q (round_whole B false q h)

-- x is finite, not negative (-0 is not), and a units
abbrev pub Fine : Float → ℕ → Type 0
Fine x a = (s : Bool) × Is x s a × (nn s a ≡ 0)

abbrev pub Ext : Float → ℕ → Type 0
Ext x a = ((a < O) × Fine x a) ⊎ ((O ≤ a) × (x ≡ inf false))

below_nil : (s : Bool) (a : ℕ) → Below false 0 s a → nn s a ≡ 0
below_nil false a h = refl
below_nil true a h = omega arith

pub held_of : (x : Float) (s : Bool) (a : ℕ) → T (fits B x) → Is x s a → Held a
held_of x s a f h = let k = is_of x (is_finite_lem x s a h) f in subst Held (is_same x (sign x) s (mag x) a k.0 h).1 k.1

pub rnd_O : rnd 53 O 1 ≡ O
unfolding O
rnd_O = rnd_fix 53 1 2098 (lit< tt)

-- against a number k that rounding does not change
pub rnd-ge : (k n c : ℕ) → 0 < c → rnd 53 k 1 ≡ k → k * c ≤ n → k ≤ rnd 53 n c
rnd-ge k n c p h g = le_trans (le_of_eq (sym h)) (rnd-mono 53 k 1 n c (lit< tt) (lit< tt) p (le_trans g (le_of_eq (sym (mul-one n)))))

pub rnd-le : (k n c : ℕ) → 0 < c → rnd 53 k 1 ≡ k → n ≤ k * c → rnd 53 n c ≤ k
rnd-le k n c p h g = le_trans (rnd-mono 53 n c k 1 (lit< tt) p (lit< tt) (le_trans (le_of_eq (mul-one n)) g)) (le_of_eq h)

pub rnd_O-le : (n c : ℕ) → 0 < c → O * c ≤ n → O ≤ rnd 53 n c
rnd_O-le n c C h = rnd-ge O n c C rnd_O h

pub rnd-zero : (c : ℕ) → 0 < c → rnd 53 0 c ≡ 0
rnd-zero c C = rnd_same 53 0 c 0 1 (lit< tt) C (lit< tt) (omega arith) ∙ rnd_fix 53 0 0 (lit< tt)

pub U_held : Held U
unfolding U
U_held = (rnd_fix 53 1 1074 (lit< tt), U_O)

pub two_U : rnd 53 (2 * U) 1 ≡ 2 * U
unfolding U
two_U = rnd_fix 53 1 1075 (lit< tt)

pub two_O : 2 * U < O
unfolding U O
two_O = lit< tt

-- a value of the format that is not negative, as a program's test `0.0 <= x` tells
pub ext_of : (x : Float) → T (fits B x) → T (le f0 x) → (a : ℕ) × Ext x a × (rnd 53 a 1 ≡ a)
unfolding le
ext_of (inf false) f h = (O, inr (le_refl O, refl), rnd_O)
ext_of (fin s m e) f h =
    let x = fin s m e in
    let k = is_of x tt f in
    (mag x, inl (k.1.1, (s, k.0, below_nil s (mag x) (below_of-le f0 x false s 0 (mag x) nil_is k.0 h))), k.1.0)
ext_of nan f h = elim h [ ]
ext_of (inf true) f h = elim h [ ]

-- ---- the order
below_of : (s t : Bool) (a b : ℕ) → nn s a ≡ 0 → nn t b ≡ 0 → a ≤ b → Below s a t b
below_of s t a b p q h = omega (arith, pp_is s a p, pp_is t b q)

of_below : (s t : Bool) (a b : ℕ) → nn s a ≡ 0 → nn t b ≡ 0 → Below s a t b → a ≤ b
of_below s t a b p q h = omega (arith, pp_is s a p, pp_is t b q)

fine_inf : (x : Float) (s : Bool) (a : ℕ) → Is x s a → T (le x (inf false))
unfolding le
fine_inf (fin t m e) s a h = tt
fine_inf nan s a h = elim h [ ]
fine_inf (inf _) s a h = elim h [ ]

inf_inf : T (le (inf false) (inf false))
unfolding le
inf_inf = tt

not_inf : (y : Float) (t : Bool) (b : ℕ) → Is y t b → T (le (inf false) y) → ⊥
unfolding le
not_inf (fin t m e) s b h l = l
not_inf nan s b h l = elim h [ ]
not_inf (inf _) s b h l = elim h [ ]

pub ext_le : (x y : Float) (a b : ℕ) → Ext x a → Ext y b → a ≤ b → T (le x y)
ext_le x y a b (inl p) (inl q) h =
    le_of_below x y p.1.0 q.1.0 a b p.1.1 q.1.1 (below_of p.1.0 q.1.0 a b p.1.2 q.1.2 h)
ext_le x y a b (inl p) (inr q) h = subst (λ (z : Float). T (le x z)) (sym q.1) (fine_inf x p.1.0 a p.1.1)
ext_le x y a b (inr p) (inl q) h = absurd (lt_irrefl O (lt_of_le_of_lt p.0 (lt_of_le_of_lt h q.0)))
ext_le x y a b (inr p) (inr q) h =
    subst (λ (z : Float). T (le z y)) (sym p.1) (subst (λ (z : Float). T (le (inf false) z)) (sym q.1) inf_inf)

pub le_ext : (x y : Float) (a b : ℕ) → Ext x a → Ext y b → b < O → T (le x y) → a ≤ b
le_ext x y a b (inl p) (inl q) l h =
    of_below p.1.0 q.1.0 a b p.1.2 q.1.2 (below_of-le x y p.1.0 q.1.0 a b p.1.1 q.1.1 h)
le_ext x y a b (inr p) (inl q) l h = absurd (not_inf y q.1.0 b q.1.1 (subst (λ (z : Float). T (le z y)) p.1 h))
le_ext x y a b p (inr q) l h = absurd (lt_irrefl O (lt_of_le_of_lt q.0 l))

pub ext_finite : (x : Float) (a : ℕ) → Ext x a → a < O → T (finite x)
ext_finite x a (inl p) l = is_finite_lem x p.1.0 a p.1.1
ext_finite x a (inr p) l = absurd (lt_irrefl O (lt_of_le_of_lt p.0 l))

-- the size of a finite value is below O
pub finite_ext : (x : Float) (a : ℕ) → Ext x a → T (finite x) → a < O
finite_ext x a (inl p) f = p.0
finite_ext x a (inr p) f = absurd (subst (λ (z : Float). T (finite z)) p.1 f)

pub nil_ext : Ext f0 0
nil_ext = inl (lt_of_le_of_lt zero-le U_O, (false, nil_is, refl))

pub unit_fine : Fine f1 U
unit_fine = (false, unit_is, refl)

pub unit_ext : Ext f1 U
unit_ext = inl (U_O, unit_fine)

-- ---- rounding
nn_keeps : (s : Bool) (a r : ℕ) → nn s a ≡ 0 → (a ≡ 0 → r ≡ 0) → nn s r ≡ 0
nn_keeps false a r h f = refl
nn_keeps true a r h f = f h

pub round_ext : (s : Bool) (a c : ℕ) → 0 < c → nn s a ≡ 0 → Ext (round B s a c) (rnd 53 (a * U) c)
round_ext s a c C h =
    elim (below_or_from (rnd 53 (a * U) c) O) [
      | inl l ↦ inl (l, (s, round_units s a c l, nn_keeps s a (rnd 53 (a * U) c) h null))
      | inr g ↦ inr (g, over s h g)
    ]
  where
    null : a ≡ 0 → rnd 53 (a * U) c ≡ 0
    null e = ap (λ (z : ℕ). rnd 53 (z * U) c) e ∙ ap (λ (z : ℕ). rnd 53 z c) (zero-mul U) ∙ rnd-zero c C

    over : (t : Bool) → nn t a ≡ 0 → O ≤ rnd 53 (a * U) c → round B t a c ≡ inf false
    over false k g = round_over false a c g
    over true k g = absurd (lt_irrefl O (lt_of_le_of_lt g (lt_of_le_of_lt (le_of_eq (null k)) (lt_of_le_of_lt zero-le U_O))))

-- ---- the operations
same_sign : (t : Bool) (n : ℕ) → nn (unlike t t) n ≡ 0
same_sign false n = refl
same_sign true n = refl

nn-unlike : (s t : Bool) (a b : ℕ) → nn s a ≡ 0 → nn t b ≡ 0 → nn (unlike s t) (a * b) ≡ 0
nn-unlike false false a b p q = refl
nn-unlike false true a b p q = ap (λ (z : ℕ). a * z) q ∙ omega arith
nn-unlike true false a b p q = ap (λ (z : ℕ). z * b) p ∙ zero-mul b
nn-unlike true true a b p q = refl

pub mul_ext : (x y : Float) (a b : ℕ) → Fine x a → Fine y b → Ext (mul B x y) (rnd 53 (a * b * U) (U * U))
mul_ext x y a b p q =
    subst (λ (z : Float). Ext z (rnd 53 (a * b * U) (U * U))) (sym (mul_is x y p.0 q.0 a b p.1 q.1))
    (round_ext (unlike p.0 q.0) (a * b) (U * U) (mul-pos U_pos U_pos) (nn-unlike p.0 q.0 a b p.2 q.2))

-- a square, of a value of either sign
pub square_ext : (x : Float) (s : Bool) (n : ℕ) → Is x s n → Ext (mul B x x) (rnd 53 (n * n * U) (U * U))
square_ext x s n i =
    subst (λ (z : Float). Ext z (rnd 53 (n * n * U) (U * U))) (sym (mul_is x x s s n n i i))
    (round_ext (unlike s s) (n * n) (U * U) (mul-pos U_pos U_pos) (same_sign s (n * n)))

nn_over : (s t : Bool) (a b : ℕ) → nn s a ≡ 0 → nn t b ≡ 0 → 0 < b → nn (unlike s t) a ≡ 0
nn_over false false a b p q h = refl
nn_over false true a b p q h = omega arith
nn_over true false a b p q h = p
nn_over true true a b p q h = refl

pub div_ext : (x y : Float) (a b : ℕ) → Fine x a → Fine y b → 0 < b → Ext (div B x y) (rnd 53 (a * U) b)
div_ext x y a b p q h =
    subst (λ (z : Float). Ext z (rnd 53 (a * U) b)) (sym (div_is x y p.0 q.0 a b p.1 q.1 h))
    (round_ext (unlike p.0 q.0) a b h (nn_over p.0 q.0 a b p.2 q.2 h))

pub div_inf : (x : Float) (a : ℕ) → Fine x a → Ext (div B x (inf false)) 0
unfolding div
div_inf nan a p = absurd p.1
div_inf (inf s) a p = absurd p.1
div_inf (fin u m e) a p = inl (lt_of_le_of_lt zero-le U_O, (unlike u false, (refl, omega arith), same (unlike u false)))
  where
    same : (s : Bool) → nn s 0 ≡ 0
    same false = refl
    same true = refl

sum_ext : (s t : Bool) (a b n : ℕ) → ((r : Sum s a t b) → (nn r.sig r.size ≡ 0) × (r.size ≡ n)) → Ext (sum B s a t b U) (rnd 53 n 1)
sum_ext s t a b n f =
    let r = sum_is s t a b in
    let g = f r in
    subst (λ (z : Float). Ext z (rnd 53 n 1)) (sym r.is)
    (subst (λ (z : ℕ). Ext (round B r.sig r.size U) z) (rnd_U r.size ∙ ap (λ (z : ℕ). rnd 53 z 1) g.1)
    (round_ext r.sig r.size U U_pos g.0))

plus : (σ s t : Bool) (δ a b : ℕ) → nn s a ≡ 0 → nn t b ≡ 0 → pp σ δ + (nn s a + nn t b) ≡ nn σ δ + (pp s a + pp t b)
    → (nn σ δ ≡ 0) × (δ ≡ a + b)
plus false s t δ a b p q e = (refl, omega (arith, pp_is s a p, pp_is t b q))
plus true s t δ a b p q e = omega (arith, pp_is s a p, pp_is t b q)

less : (σ s t : Bool) (δ a b : ℕ) → nn s a ≡ 0 → nn t b ≡ 0 → b ≤ a → pp σ δ + (nn s a + nn (not t) b) ≡ nn σ δ + (pp s a + pp (not t) b)
    → (nn σ δ ≡ 0) × (δ ≡ a - b)
less false s t δ a b p q h e = (refl, omega (arith, pp_is s a p, pp_is t b q, swap_pp t b, swap_nn t b))
less true s t δ a b p q h e = omega (arith, pp_is s a p, pp_is t b q, swap_pp t b, swap_nn t b)

add-fine : (x y : Float) (a b : ℕ) → Fine x a → Fine y b → Ext (add B x y) (rnd 53 (a + b) 1)
add-fine x y a b p q =
    subst (λ (z : Float). Ext z (rnd 53 (a + b) 1)) (sym (add_is x y p.0 q.0 a b p.1 q.1))
    (sum_ext p.0 q.0 a b (a + b) (λ (r : Sum p.0 a q.0 b). plus r.sig p.0 q.0 r.size a b p.2 q.2 r.exact))

pub sub-fine : (x y : Float) (a b : ℕ) → Fine x a → Fine y b → b ≤ a → Ext (sub B x y) (rnd 53 (a - b) 1)
sub-fine x y a b p q h =
    subst (λ (z : Float). Ext z (rnd 53 (a - b) 1))
    (sym (sub_opens x y ∙ add_is x (neg y) p.0 (not q.0) a b p.1 (neg_is y q.0 b q.1)))
    (sum_ext p.0 (not q.0) a b (a - b)
    (λ (r : Sum p.0 a (not q.0) b). less r.sig p.0 q.0 r.size a b p.2 q.2 h r.exact))

inf_add : (y : Float) (t : Bool) (b : ℕ) → Is y t b → add B (inf false) y ≡ inf false
unfolding add
inf_add (fin t m e) s b h = refl
inf_add nan s b h = elim h [ ]
inf_add (inf _) s b h = elim h [ ]

add_inf : (x : Float) (s : Bool) (a : ℕ) → Is x s a → add B x (inf false) ≡ inf false
unfolding add
add_inf (fin t m e) s b h = refl
add_inf nan s b h = elim h [ ]
add_inf (inf _) s b h = elim h [ ]

inf_add_inf : add B (inf false) (inf false) ≡ inf false
unfolding add
inf_add_inf = refl

big : (n : ℕ) → O ≤ n → O ≤ rnd 53 n 1
big n h = rnd_O-le n 1 (lit< tt) (le_trans (le_of_eq (mul-one O)) h)

pub add_ext : (x y : Float) (a b : ℕ) → Ext x a → Ext y b → Ext (add B x y) (rnd 53 (a + b) 1)
add_ext x y a b (inl p) (inl q) = add-fine x y a b p.1 q.1
add_ext x y a b (inl p) (inr q) =
    let g = q.0 in inr (big (a + b) (omega arith), ap (λ (z : Float). add B x z) q.1 ∙ add_inf x p.1.0 a p.1.1)
add_ext x y a b (inr p) (inl q) =
    let g = p.0 in inr (big (a + b) (omega arith), ap (λ (z : Float). add B z y) p.1 ∙ inf_add y q.1.0 b q.1.1)
add_ext x y a b (inr p) (inr q) =
    let g = p.0 in
    inr (big (a + b) (omega arith), ap (λ (z : Float). add B z y) p.1 ∙ ap (λ (z : Float). add B (inf false) z) q.1 ∙ inf_add_inf)

-- ---- what tests tell
pub fine_under : (x : Float) (a : ℕ) → Ext x a → a < O → Fine x a
fine_under x a (inl p) l = p.1
fine_under x a (inr p) l = absurd (lt_irrefl O (lt_of_le_of_lt p.0 l))

-- a value above 0
pub fine_pos : (y : Float) (n : ℕ) → Fine y n → 0 < n → Is y false n
fine_pos y n h p = go h.0 h.1 h.2
  where
    go : (s : Bool) → Is y s n → nn s n ≡ 0 → Is y false n
    go false i e = i
    go true i e = absurd (lt_irrefl 0 (subst (λ (z : ℕ). 0 < z) e p))

pub fine_of : (x : Float) → T (fits B x) → T (le f0 x) → T (finite x) → (a : ℕ) × Fine x a × (a < O) × (rnd 53 a 1 ≡ a)
fine_of x f h t =
    let e = ext_of x f h in
    let l = finite_ext x e.0 e.1 t in
    (e.0, fine_under x e.0 e.1 l, l, e.2)

pub share_of : (x : Float) → T (fits B x) → T (le f0 x) → T (le x f1) → (a : ℕ) × Fine x a × (a ≤ U) × (rnd 53 a 1 ≡ a)
share_of x f h t =
    let e = ext_of x f h in
    let l = le_ext x f1 e.0 U e.1 unit_ext U_O t in
    (e.0, fine_under x e.0 e.1 (lt_of_le_of_lt l U_O), l, e.2)

-- what lies from 0 to b units is finite, not negative, and at most y
pub inside : (z y : Float) (c b : ℕ) → Ext z c → Ext y b → b < O → c ≤ b → T (finite z) × T (le f0 z) × T (le z y)
inside z y c b p q l h = (ext_finite z c p (lt_of_le_of_lt h l), ext_le f0 z 0 c nil_ext p zero-le, ext_le z y c b p q h)

pub lt-le : (x y : Float) → T (lt x y) → T (le x y)
unfolding le
lt-le x y t = either (lt x y) (eq x y) (inl t)

pub none_below : (a d : ℕ) → a < 0 * 1 * d → ⊥
none_below a d h = omega arith

pub lt-nil_pos : (y : Float) (b : ℕ) → Fine y b → T (lt f0 y) → 0 < b
unfolding lt
lt-nil_pos nan b p t = absurd t
lt-nil_pos (inf s) b p t = absurd p.1
lt-nil_pos (fin true n d) b p t = absurd t
lt-nil_pos (fin false n d) b p t =
    let h = ltb→lt (0 * 1 * down d) (n * up d * 1) t in
    first_pos b (down d) (subst (λ (z : ℕ). 0 < z) p.1.1 (mul-pos (omega arith) U_pos))

pub lt_of_pos : (x : Float) (n : ℕ) → Is x false n → 0 < n → T (lt f0 x)
unfolding lt
lt_of_pos (fin false m e) n h p =
    let a : 0 < m * up e = first_pos (m * up e) U (subst (λ (z : ℕ). 0 < z) (sym h.1) (mul-pos p (down_pos e))) in
    lt→ltb (0 * 1 * down e) (m * up e * 1) (omega arith)
lt_of_pos (fin true m e) n h p = absurd (true≢false h.0)
lt_of_pos nan n h p = elim h [ ]
lt_of_pos (inf _) n h p = elim h [ ]

inf_pos : T (lt f0 (inf false))
unfolding lt
inf_pos = tt

-- what is not negative and not of size 0 is above 0
pub ext_pos : (x : Float) (n : ℕ) → Ext x n → 0 < n → T (lt f0 x)
ext_pos x n (inl h) p = lt_of_pos x n (fine_pos x n h.1 p) p
ext_pos x n (inr h) p = subst (λ (z : Float). T (lt f0 z)) (sym h.1) inf_pos
