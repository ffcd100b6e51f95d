-- Signed numbers as pairs of naturals, p - n. Their sums and products obey the laws of a commutative semiring strictly, so polynomial identities are decided by computation, and so are bounds.
-- Proved: an expression whose normal form cancels is zero (`poly`), two expressions that differ by nothing have the same size (`ab_poly`); the size of sums and products (`ab-add`, `ab-mul`);
-- and a bound on the size of a homogeneous polynomial, computed from bounds on its variables (`bounded`). `Bd j a b`: 2 ^ 64 times the size of a is at most b * U ^ j.
use Rattle.std.proofs.Common.{◌≡◌, refl, sym, ap, ◌∙◌, subst, ◌⊎◌, inl, inr, Bool, true, false, ◌&&◌, ℕ, zero, suc, ◌+◌, ◌-◌, ◌*◌, ◌/◌, ◌^◌, ◌≤◌, ◌<◌, le_trans, le_of_eq, mul-le-mul_right, mul-le-mul_left, mul-le-mul, le_of_mul-le-mul_right, mul-pos, mul-one, mul_comm, mul_right_comm, arith, T, eqb, eqb→eq, leb, lit<, pow-add}
use mathlib.Core.List.{List, [], ◌∷◌}
use Prim.Native.Nat.{compare, Ordering}
use native.Mathlib.Nat.{pow-zero, pow-succ'}
use lib.Ieee.Fits.{and_l, and_r}
use Rattle.floats.proofs.Rounding.{below_or_from}
use Rattle.floats.proofs.Rounding.Units.{U, U_pos}
use lib.ListN.{get_or}

abbrev pub R : Type 0
R = ℕ × ℕ

infixl 60 ◌⊞◌
infixl 70 ◌⊠◌
unfoldable pub ◌⊞◌ : R → R → R
a ⊞ b = (a.0 + b.0, a.1 + b.1)

unfoldable pub ◌⊠◌ : R → R → R
a ⊠ b = (a.0 * b.0 + a.1 * b.1, a.0 * b.1 + a.1 * b.0)

unfoldable pub inv : R → R
inv a = (a.1, a.0)

abbrev pub nat : ℕ → R
nat n = (n, 0)

pair : {a b c d : ℕ} → a ≡ c → b ≡ d → ◌≡◌ {A = R} (a, b) (c, d)
pair p q = λ i. (p i, q i)

-- ---- the laws
pub ⊞-assoc : (a b c : R) → a ⊞ b ⊞ c ≡ a ⊞ (b ⊞ c)
unfolding ◌⊞◌
⊞-assoc a b c = pair (omega arith) (omega arith)

pub ⊞-comm : (a b : R) → a ⊞ b ≡ b ⊞ a
unfolding ◌⊞◌
⊞-comm a b = pair (omega arith) (omega arith)

pub ⊞-zero : (a : R) → a ⊞ nat 0 ≡ a
unfolding ◌⊞◌
⊞-zero a = pair (omega arith) (omega arith)

pub ⊠-comm : (a b : R) → a ⊠ b ≡ b ⊠ a
unfolding ◌⊠◌
⊠-comm a b = pair (omega arith) (omega arith)

pub ⊠-assoc : (a b c : R) → a ⊠ b ⊠ c ≡ a ⊠ (b ⊠ c)
unfolding ◌⊠◌
⊠-assoc a b c = pair (go a.0 a.1 b.0 b.1 c.0 c.1) (go a.0 a.1 b.0 b.1 c.1 c.0)
  where
    go : (p n q m r s : ℕ) → (p * q + n * m) * r + (p * m + n * q) * s ≡ p * (q * r + m * s) + n * (q * s + m * r)
    go p n q m r s = omega arith

pub ⊠-add : (a b c : R) → (a ⊞ b) ⊠ c ≡ a ⊠ c ⊞ b ⊠ c
unfolding ◌⊞◌ ◌⊠◌
⊠-add a b c = pair (go a.0 a.1 b.0 b.1 c.0 c.1) (go a.0 a.1 b.0 b.1 c.1 c.0)
  where
    go : (p n q m r s : ℕ) → (p + q) * r + (n + m) * s ≡ p * r + n * s + (q * r + m * s)
    go p n q m r s = omega arith

pub ⊠-one : (a : R) → nat 1 ⊠ a ≡ a
unfolding ◌⊠◌
⊠-one a = pair (omega arith) (omega arith)

pub ⊠-zero : (a : R) → nat 0 ⊠ a ≡ nat 0
unfolding ◌⊠◌
⊠-zero a = pair (omega arith) (omega arith)

pub ⊠-left : (a b c : R) → a ⊠ (b ⊠ c) ≡ b ⊠ (a ⊠ c)
⊠-left a b c = sym (⊠-assoc a b c) ∙ ap (λ (z : R). z ⊠ c) (⊠-comm a b) ∙ ⊠-assoc b a c

pub ⊞-left : (a b c : R) → a ⊞ (b ⊞ c) ≡ b ⊞ (a ⊞ c)
⊞-left a b c = sym (⊞-assoc a b c) ∙ ap (λ (z : R). z ⊞ c) (⊞-comm a b) ∙ ⊞-assoc b a c

inv_is : (a : R) → inv a ≡ (0, 1) ⊠ a
unfolding inv ◌⊠◌
inv_is a = pair (omega arith) (omega arith)

-- ---- polynomials
pub data Ex : Type 0 where
  va li : ℕ → Ex
  ◌∔◌ ◌⋆◌ : Ex → Ex → Ex
  minus : Ex → Ex

infixl 60 ◌∔◌
infixl 70 ◌⋆◌
abbrev pub at : List R → ℕ → R
at ρ i = get_or ρ i (nat 0)

abbrev pub eval : List R → Ex → R
eval ρ (va i) = at ρ i
eval ρ (li n) = nat n
eval ρ (a ∔ b) = eval ρ a ⊞ eval ρ b
eval ρ (a ⋆ b) = eval ρ a ⊠ eval ρ b
eval ρ (minus a) = inv (eval ρ a)

pub data Mono : Type 0 where
  mono : ℕ → ℕ → List ℕ → Mono

prod : List R → List ℕ → R
prod ρ [] = nat 1
prod ρ (i ∷ l) = at ρ i ⊠ prod ρ l

val : List R → List Mono → R
unfolding prod
val ρ [] = nat 0
val ρ (mono c d l ∷ p) = (c, d) ⊠ prod ρ l ⊞ val ρ p

insert_at : Bool → ℕ → ℕ → List ℕ → List ℕ → List ℕ
insert_at true i j l r = i ∷ j ∷ l
insert_at false i j l r = j ∷ r

insert : ℕ → List ℕ → List ℕ
unfolding insert_at
insert i [] = i ∷ []
insert i (j ∷ l) = let r = insert i l in insert_at (leb i j) i j l r

insert_ok : (ρ : List R) (i : ℕ) (l : List ℕ) → prod ρ (insert i l) ≡ at ρ i ⊠ prod ρ l
unfolding insert prod
insert_ok ρ i [] = refl
insert_ok ρ i (j ∷ l) = go (leb i j) (insert_ok ρ i l)
  where
    go : (b : Bool) → prod ρ (insert i l) ≡ at ρ i ⊠ prod ρ l → prod ρ (insert_at b i j l (insert i l)) ≡ at ρ i ⊠ (at ρ j ⊠ prod ρ l)
    go true ih = refl
    go false ih = ap (λ (z : R). at ρ j ⊠ z) ih ∙ ⊠-left (at ρ j) (at ρ i) (prod ρ l)

merge : List ℕ → List ℕ → List ℕ
unfolding insert
merge [] m = m
merge (i ∷ l) m = insert i (merge l m)

merge_ok : (ρ : List R) (l m : List ℕ) → prod ρ (merge l m) ≡ prod ρ l ⊠ prod ρ m
unfolding merge prod
merge_ok ρ [] m = sym (⊠-one (prod ρ m))
merge_ok ρ (i ∷ l) m = insert_ok ρ i (merge l m) ∙ ap (λ (z : R). at ρ i ⊠ z) (merge_ok ρ l m) ∙ sym (⊠-assoc (at ρ i) (prod ρ l) (prod ρ m))

same : List ℕ → List ℕ → Bool
same [] [] = true
same [] (j ∷ m) = false
same (i ∷ l) [] = false
same (i ∷ l) (j ∷ m) = eqb i j && same l m

same_ok : (l m : List ℕ) → T (same l m) → l ≡ m
unfolding same
same_ok [] [] t = refl
same_ok (i ∷ l) (j ∷ m) t = λ d. eqb→eq i j (and_l (eqb i j) (same l m) t) d ∷ same_ok l m (and_r (eqb i j) (same l m) t) d
same_ok [] (j ∷ m) t = elim t [ ]
same_ok (i ∷ l) [] t = elim t [ ]

first : Ordering → Bool → Bool
first Ordering.lt b = true
first Ordering.eq b = b
first Ordering.gt b = false

before : List ℕ → List ℕ → Bool
unfolding first
before [] m = true
before (i ∷ l) [] = false
before (i ∷ l) (j ∷ m) = first (compare i j) (before l m)

add_at : Bool → Bool → ℕ → ℕ → List ℕ → ℕ → ℕ → List ℕ → List Mono → List Mono → List Mono
add_at true b c c' l d d' m p r = mono (c + d) (c' + d') l ∷ p
add_at false true c c' l d d' m p r = mono c c' l ∷ mono d d' m ∷ p
add_at false false c c' l d d' m p r = mono d d' m ∷ r

put : ℕ → ℕ → List ℕ → List Mono → List Mono
unfolding add_at same before
put c c' l [] = mono c c' l ∷ []
put c c' l (mono d d' m ∷ p) = let r = put c c' l p in add_at (same l m) (before l m) c c' l d d' m p r

coef_add : (c c' d d' : ℕ) → ◌≡◌ {A = R} (c + d, c' + d') ((c, c') ⊞ (d, d'))
unfolding ◌⊞◌
coef_add c c' d d' = refl

put_ok : (ρ : List R) (c c' : ℕ) (l : List ℕ) (p : List Mono) → val ρ (put c c' l p) ≡ (c, c') ⊠ prod ρ l ⊞ val ρ p
unfolding put val
put_ok ρ c c' l [] = refl
put_ok ρ c c' l (mono d d' m ∷ p) = go (same l m) (same_ok l m) (before l m) (put_ok ρ c c' l p)
  where
    go : (s : Bool) → (T s → l ≡ m) → (b : Bool) → val ρ (put c c' l p) ≡ (c, c') ⊠ prod ρ l ⊞ val ρ p
        → val ρ (add_at s b c c' l d d' m p (put c c' l p)) ≡ (c, c') ⊠ prod ρ l ⊞ ((d, d') ⊠ prod ρ m ⊞ val ρ p)
    go true e b ih =
        ap (λ (z : R). z ⊠ prod ρ l ⊞ val ρ p) (coef_add c c' d d')
        ∙ ap (λ (z : R). z ⊞ val ρ p) (⊠-add (c, c') (d, d') (prod ρ l))
        ∙ ⊞-assoc ((c, c') ⊠ prod ρ l) ((d, d') ⊠ prod ρ l) (val ρ p)
        ∙ ap (λ (z : List ℕ). (c, c') ⊠ prod ρ l ⊞ ((d, d') ⊠ prod ρ z ⊞ val ρ p)) (e tt)
    go false e true ih = refl
    go false e false ih = ap (λ (z : R). (d, d') ⊠ prod ρ m ⊞ z) ih ∙ ⊞-left ((d, d') ⊠ prod ρ m) ((c, c') ⊠ prod ρ l) (val ρ p)

plus : List Mono → List Mono → List Mono
unfolding put
plus [] q = q
plus (mono c d l ∷ p) q = put c d l (plus p q)

plus_ok : (ρ : List R) (p q : List Mono) → val ρ (plus p q) ≡ val ρ p ⊞ val ρ q
unfolding plus val
plus_ok ρ [] q = sym (⊞-comm (nat 0) (val ρ q) ∙ ⊞-zero (val ρ q))
plus_ok ρ (mono c d l ∷ p) q = put_ok ρ c d l (plus p q) ∙ ap (λ (z : R). (c, d) ⊠ prod ρ l ⊞ z) (plus_ok ρ p q) ∙ sym (⊞-assoc ((c, d) ⊠ prod ρ l) (val ρ p) (val ρ q))

scale : ℕ → ℕ → List ℕ → List Mono → List Mono → List Mono
unfolding put merge
scale c c' l [] r = r
scale c c' l (mono d d' m ∷ p) r = put (c * d + c' * d') (c * d' + c' * d) (merge l m) (scale c c' l p r)

coef_mul : (c c' d d' : ℕ) → ◌≡◌ {A = R} (c * d + c' * d', c * d' + c' * d) ((c, c') ⊠ (d, d'))
unfolding ◌⊠◌
coef_mul c c' d d' = refl

shape : (c d x y p r : R) → c ⊠ d ⊠ (x ⊠ y) ⊞ (c ⊠ x ⊠ p ⊞ r) ≡ c ⊠ x ⊠ (d ⊠ y ⊞ p) ⊞ r
shape c d x y p r =
    ap (λ (z : R). z ⊞ (c ⊠ x ⊠ p ⊞ r)) (⊠-assoc c d (x ⊠ y) ∙ ap (λ (z : R). c ⊠ z) (⊠-left d x y) ∙ sym (⊠-assoc c x (d ⊠ y)) ∙ ⊠-comm (c ⊠ x) (d ⊠ y))
    ∙ sym (⊞-assoc (d ⊠ y ⊠ (c ⊠ x)) (c ⊠ x ⊠ p) r)
    ∙ ap (λ (z : R). d ⊠ y ⊠ (c ⊠ x) ⊞ z ⊞ r) (⊠-comm (c ⊠ x) p)
    ∙ ap (λ (z : R). z ⊞ r) (sym (⊠-add (d ⊠ y) p (c ⊠ x)) ∙ ⊠-comm (d ⊠ y ⊞ p) (c ⊠ x))

scale_ok : (ρ : List R) (c c' : ℕ) (l : List ℕ) (p r : List Mono) → val ρ (scale c c' l p r) ≡ (c, c') ⊠ prod ρ l ⊠ val ρ p ⊞ val ρ r
unfolding scale val
scale_ok ρ c c' l [] r = sym (ap (λ (z : R). z ⊞ val ρ r) (⊠-comm ((c, c') ⊠ prod ρ l) (nat 0) ∙ ⊠-zero ((c, c') ⊠ prod ρ l)) ∙ ⊞-comm (nat 0) (val ρ r) ∙ ⊞-zero (val ρ r))
scale_ok ρ c c' l (mono d d' m ∷ p) r =
    put_ok ρ (c * d + c' * d') (c * d' + c' * d) (merge l m) (scale c c' l p r)
    ∙ ap (λ (z : R). z ⊠ prod ρ (merge l m) ⊞ val ρ (scale c c' l p r)) (coef_mul c c' d d')
    ∙ ap (λ (z : R). (c, c') ⊠ (d, d') ⊠ z ⊞ val ρ (scale c c' l p r)) (merge_ok ρ l m) ∙ ap (λ (z : R). (c, c') ⊠ (d, d') ⊠ (prod ρ l ⊠ prod ρ m) ⊞ z) (scale_ok ρ c c' l p r)
    ∙ shape (c, c') (d, d') (prod ρ l) (prod ρ m) (val ρ p) (val ρ r)

times : List Mono → List Mono → List Mono
unfolding scale
times [] q = []
times (mono c d l ∷ p) q = scale c d l q (times p q)

times_ok : (ρ : List R) (p q : List Mono) → val ρ (times p q) ≡ val ρ p ⊠ val ρ q
unfolding times val
times_ok ρ [] q = sym (⊠-zero (val ρ q))
times_ok ρ (mono c d l ∷ p) q = scale_ok ρ c d l q (times p q) ∙ ap (λ (z : R). (c, d) ⊠ prod ρ l ⊠ val ρ q ⊞ z) (times_ok ρ p q) ∙ sym (⊠-add ((c, d) ⊠ prod ρ l) (val ρ p) (val ρ q))

unfoldable norm : Ex → List Mono
unfolding plus times
norm (va i) = mono 1 0 (i ∷ []) ∷ []
norm (li n) = mono n 0 [] ∷ []
norm (a ∔ b) = plus (norm a) (norm b)
norm (a ⋆ b) = times (norm a) (norm b)
norm (minus a) = scale 0 1 [] (norm a) []

norm_ok : (ρ : List R) (a : Ex) → val ρ (norm a) ≡ eval ρ a
unfolding norm val prod
norm_ok ρ (va i) = ⊞-zero (nat 1 ⊠ (at ρ i ⊠ nat 1)) ∙ ⊠-one (at ρ i ⊠ nat 1) ∙ ⊠-comm (at ρ i) (nat 1) ∙ ⊠-one (at ρ i)
norm_ok ρ (li n) = ⊞-zero (nat n ⊠ nat 1) ∙ ⊠-comm (nat n) (nat 1) ∙ ⊠-one (nat n)
norm_ok ρ (a ∔ b) = plus_ok ρ (norm a) (norm b) ∙ ap (λ (z : R). z ⊞ val ρ (norm b)) (norm_ok ρ a) ∙ ap (λ (z : R). eval ρ a ⊞ z) (norm_ok ρ b)
norm_ok ρ (a ⋆ b) = times_ok ρ (norm a) (norm b) ∙ ap (λ (z : R). z ⊠ val ρ (norm b)) (norm_ok ρ a) ∙ ap (λ (z : R). eval ρ a ⊠ z) (norm_ok ρ b)
norm_ok ρ (minus a) =
    scale_ok ρ 0 1 [] (norm a) [] ∙ ⊞-zero ((0, 1) ⊠ nat 1 ⊠ val ρ (norm a))
    ∙ ap (λ (z : R). z ⊠ val ρ (norm a)) (⊠-comm (0, 1) (nat 1) ∙ ⊠-one (0, 1)) ∙ ap (λ (z : R). (0, 1) ⊠ z) (norm_ok ρ a) ∙ sym (inv_is (eval ρ a))

-- every coefficient cancels
zeros : List Mono → Bool
zeros [] = true
zeros (mono c d l ∷ p) = eqb c d && zeros p

abbrev pub Zero : R → Type 0
Zero a = a.0 ≡ a.1

zero_more : (c d : ℕ) (x y : R) → c ≡ d → Zero y → Zero ((c, d) ⊠ x ⊞ y)
unfolding ◌⊠◌ ◌⊞◌
zero_more c d x y e h = let e' = ap (λ (z : ℕ). z * x.0) e in let e'' = ap (λ (z : ℕ). z * x.1) e in omega arith

zeros_ok : (ρ : List R) (p : List Mono) → T (zeros p) → Zero (val ρ p)
unfolding zeros val
zeros_ok ρ [] t = refl
zeros_ok ρ (mono c d l ∷ p) t = zero_more c d (prod ρ l) (val ρ p) (eqb→eq c d (and_l (eqb c d) (zeros p) t)) (zeros_ok ρ p (and_r (eqb c d) (zeros p) t))

unfoldable pub vanishes : Ex → Bool
unfolding norm zeros
vanishes a = zeros (norm a)

pub poly : (ρ : List R) (a : Ex) → T (vanishes a) → Zero (eval ρ a)
unfolding vanishes
poly ρ a t = subst Zero (norm_ok ρ a) (zeros_ok ρ (norm a) t)

-- ---- the size
unfoldable pub ab : R → ℕ
ab a = (a.0 - a.1) + (a.1 - a.0)

pub ab-add : (a b : R) → ab (a ⊞ b) ≤ ab a + ab b
unfolding ab ◌⊞◌
ab-add a b = omega arith

pub ab-inv : (a : R) → ab (inv a) ≡ ab a
unfolding ab inv
ab-inv a = omega arith

pub ab-nat : (n : ℕ) → ab (nat n) ≡ n
unfolding ab
ab-nat n = omega arith

abbrev Dist : ℕ → ℕ → ℕ → Type 0
Dist p n d = (p ≡ n + d) ⊎ (n ≡ p + d)

dist : (p n : ℕ) → Dist p n ((p - n) + (n - p))
dist p n = elim (below_or_from p n) [ inl h ↦ inr (omega arith) | inr h ↦ inl (omega arith) ]

dist_is : (p n d : ℕ) → Dist p n d → (p - n) + (n - p) ≡ d
dist_is p n d (inl h) = omega arith
dist_is p n d (inr h) = omega arith

dist-mul : (p n d q m e : ℕ) → Dist p n d → Dist q m e → Dist (p * q + n * m) (p * m + n * q) (d * e)
dist-mul p n d q m e (inl a) (inl b) = inl (rw (a, b) (omega arith))
dist-mul p n d q m e (inl a) (inr b) = inr (rw (a, b) (omega arith))
dist-mul p n d q m e (inr a) (inl b) = inr (rw (a, b) (omega arith))
dist-mul p n d q m e (inr a) (inr b) = inl (rw (a, b) (omega arith))

pub ab-mul : (a b : R) → ab (a ⊠ b) ≡ ab a * ab b
unfolding ab ◌⊠◌
ab-mul a b =
    let A = (a.0 - a.1) + (a.1 - a.0) in
    let C = (b.0 - b.1) + (b.1 - b.0) in
    let d = dist-mul a.0 a.1 A b.0 b.1 C (dist a.0 a.1) (dist b.0 b.1) in
    dist_is (a.0 * b.0 + a.1 * b.1) (a.0 * b.1 + a.1 * b.0) (A * C) d

-- two that differ by nothing have the same size
pub ab_same : (a b : R) → Zero (a ⊞ inv b) → ab a ≡ ab b
unfolding ab ◌⊞◌ inv
ab_same a b h = omega arith

-- by an identity of polynomials
pub ab_poly : (ρ : List R) (a b : Ex) → T (vanishes (a ∔ minus b)) → ab (eval ρ a) ≡ ab (eval ρ b)
ab_poly ρ a b t = ab_same (eval ρ a) (eval ρ b) (poly ρ (a ∔ minus b) t)

-- ---- bounds by computation: a is at most b / Q in size, in units of U ^ j
abbrev pub Q : ℕ
Q = 18446744073709551616

abbrev pub Bd : ℕ → R → ℕ → Type 0
Bd j a b = Q * ab a ≤ b * U ^ j

pub bd_more : (j : ℕ) (a : R) (b c : ℕ) → b ≤ c → Bd j a b → Bd j a c
bd_more j a b c h k = le_trans k (mul-le-mul_right (U ^ j) h)

pub from_bd : (t c k u : ℕ) → Q * t ≤ c * u → c ≤ k * Q → t ≤ k * u
from_bd t c k u h g =
    le_of_mul-le-mul_right {k = Q}
    (le_trans (le_of_eq (mul_comm t Q)) (le_trans h (le_trans (mul-le-mul_right u g) (le_of_eq (mul_right_comm k Q u)))))
    (lit< tt)

two_bounds : (s x y c d w : ℕ) → s ≤ x + y → Q * x ≤ c * w → Q * y ≤ d * w → Q * s ≤ (c + d) * w
two_bounds s x y c d w g h k = omega arith

pub bd_add : (j : ℕ) (a b : R) (c d : ℕ) → Bd j a c → Bd j b d → Bd j (a ⊞ b) (c + d)
bd_add j a b c d h k = two_bounds (ab (a ⊞ b)) (ab a) (ab b) c d (U ^ j) (ab-add a b) h k

pub bd_inv : (j : ℕ) (a : R) (c : ℕ) → Bd j a c → Bd j (inv a) c
bd_inv j a c h = rw ab-inv h

pub bd_mul : (i j : ℕ) (a b : R) (c d : ℕ) → Bd i a c → Bd j b d → Bd (i + j) (a ⊠ b) (c * d / Q + 1)
bd_mul i j a b c d h k = rw (ab-mul, pow-add) (go (ab a) (ab b) (U ^ i) (U ^ j) (c * d) (mul-le-mul h k))
  where
    up : (n : ℕ) → n ≤ Q * (n / Q + 1)
    up n = omega arith

    reg : (q x y z w : ℕ) → q * x * (q * y) ≤ c * z * (d * w) → q * (x * y) * q ≤ c * d * (z * w)
    reg q x y z w h = omega arith

    go : (x y z w n : ℕ) → Q * x * (Q * y) ≤ c * z * (d * w) → Q * (x * y) ≤ (c * d / Q + 1) * (z * w)
    go x y z w n h = le_of_mul-le-mul_right {k = Q} (le_trans (reg Q x y z w h) (le_trans (mul-le-mul_right (z * w) (up (c * d))) (le_of_eq (omega arith)))) (lit< tt)

pub bd_poly : (ρ : List R) (a b : Ex) (j c : ℕ) → T (vanishes (a ∔ minus b)) → Bd j (eval ρ a) c → Bd j (eval ρ b) c
bd_poly ρ a b j c t h = subst (λ (z : ℕ). Q * z ≤ c * U ^ j) (ab_poly ρ a b t) h

abbrev pub num : List ℕ → ℕ → ℕ
num l i = get_or l i 0

-- the variables' degrees and bounds
abbrev pub Bds : List R → List ℕ → List ℕ → Type 0
Bds [] [] [] = Unit {0}
Bds [] [] (x ∷ l) = ⊥
Bds [] (j ∷ κ) l = ⊥
Bds (a ∷ ρ) [] l = ⊥
Bds (a ∷ ρ) (j ∷ κ) [] = ⊥
Bds (a ∷ ρ) (j ∷ κ) (b ∷ β) = Bd j a b × Bds ρ κ β

lookup : (ρ : List R) (κ β : List ℕ) (i : ℕ) → Bds ρ κ β → Bd (num κ i) (at ρ i) (num β i)
lookup [] [] [] i h = rw ab-nat (omega arith)
lookup (a ∷ ρ) (j ∷ κ) (b ∷ β) zero h = h.0
lookup (a ∷ ρ) (j ∷ κ) (b ∷ β) (suc i) h = lookup ρ κ β i h.1
lookup [] [] (b ∷ β) i h = elim h [ ]
lookup [] (j ∷ κ) β i h = elim h [ ]
lookup (a ∷ ρ) [] β i h = elim h [ ]
lookup (a ∷ ρ) (j ∷ κ) [] i h = elim h [ ]

unfoldable pub deg : List ℕ → Ex → ℕ
deg κ (va i) = num κ i
deg κ (li n) = 0
deg κ (a ∔ b) = deg κ a
deg κ (a ⋆ b) = deg κ a + deg κ b
deg κ (minus a) = deg κ a

unfoldable pub homog : List ℕ → Ex → Bool
unfolding deg
homog κ (va i) = true
homog κ (li n) = true
homog κ (a ∔ b) = eqb (deg κ b) (deg κ a) && (homog κ a && homog κ b)
homog κ (a ⋆ b) = homog κ a && homog κ b
homog κ (minus a) = homog κ a

unfoldable pub bound : List ℕ → Ex → ℕ
bound β (va i) = num β i
bound β (li n) = Q * n
bound β (a ∔ b) = bound β a + bound β b
bound β (a ⋆ b) = bound β a * bound β b / Q + 1
bound β (minus a) = bound β a

pub bounded : (ρ : List R) (κ β : List ℕ) (e : Ex) → Bds ρ κ β → T (homog κ e) → Bd (deg κ e) (eval ρ e) (bound β e)
unfolding deg homog bound
bounded ρ κ β (va i) h t = lookup ρ κ β i h
bounded ρ κ β (li n) h t = rw ab-nat (le_of_eq (sym (ap (λ (z : ℕ). Q * n * z) (pow-zero U) ∙ mul-one (Q * n))))
bounded ρ κ β (a ∔ b) h t =
    let q = eqb (deg κ b) (deg κ a) in
    let g = and_r q (homog κ a && homog κ b) t in
    bd_add (deg κ a) (eval ρ a) (eval ρ b) (bound β a) (bound β b) (bounded ρ κ β a h (and_l (homog κ a) (homog κ b) g))
    (subst (λ (z : ℕ). Bd z (eval ρ b) (bound β b)) (eqb→eq (deg κ b) (deg κ a) (and_l q (homog κ a && homog κ b) t)) (bounded ρ κ β b h (and_r (homog κ a) (homog κ b) g)))
bounded ρ κ β (a ⋆ b) h t = bd_mul (deg κ a) (deg κ b) (eval ρ a) (eval ρ b) (bound β a) (bound β b) (bounded ρ κ β a h (and_l (homog κ a) (homog κ b) t)) (bounded ρ κ β b h (and_r (homog κ a) (homog κ b) t))
bounded ρ κ β (minus a) h t = bd_inv (deg κ a) (eval ρ a) (bound β a) (bounded ρ κ β a h t)

-- ---- a whole power of U as a factor
unfoldable pub sc : ℕ → R → R
sc j a = nat (U ^ j) ⊠ a

pub bd_sc : (i j : ℕ) (a : R) (c : ℕ) → Bd j a c → Bd (i + j) (sc i a) c
unfolding sc
bd_sc i j a c h = rw (ab-mul, ab-nat, pow-add) (go (ab a) (U ^ i) (U ^ j) h)
  where
    go : (x z w : ℕ) → Q * x ≤ c * w → Q * (z * x) ≤ c * (z * w)
    go x z w h = omega (arith, mul-le-mul_left z h)

pub nat-mul : (m n : ℕ) → nat (m * n) ≡ nat m ⊠ nat n
unfolding ◌⊠◌
nat-mul m n = pair (omega arith) (omega arith)

pub bd_deg : (i j : ℕ) (a : R) (c : ℕ) → i ≡ j → Bd i a c → Bd j a c
bd_deg i j a c e h = subst (λ (z : ℕ). Bd z a c) e h

unfoldable pub lift : ℕ → Ex → Ex
lift zero e = e
lift (suc n) e = va 0 ⋆ lift n e

pub lift_ok : (ρ : List R) (n : ℕ) (e : Ex) → eval (nat U ∷ ρ) (lift n e) ≡ sc n (eval (nat U ∷ ρ) e)
unfolding lift sc
lift_ok ρ zero e = sym (ap (λ (z : ℕ). nat z ⊠ eval (nat U ∷ ρ) e) (pow-zero U) ∙ ⊠-one (eval (nat U ∷ ρ) e))
lift_ok ρ (suc n) e =
    ap (λ (z : R). nat U ⊠ z) (lift_ok ρ n e)
    ∙ sym (⊠-assoc (nat U) (nat (U ^ n)) (eval (nat U ∷ ρ) e))
    ∙ ap (λ (z : R). z ⊠ eval (nat U ∷ ρ) e) (sym (nat-mul U (U ^ n)) ∙ ap (λ (z : ℕ). nat z) (sym (pow-succ' U n)))

pub ab-near : (z w : R) → ab z ≤ ab (z ⊞ inv w) + ab w
unfolding vanishes
ab-near z w = le_trans (le_of_eq (ab_poly (z ∷ w ∷ []) (va 0) (va 0 ∔ minus (va 1) ∔ va 1) tt)) (ab-add (z ⊞ inv w) w)

pub bd_near : (j : ℕ) (z w : R) (c d : ℕ) → Bd j (z ⊞ inv w) c → Bd j w d → Bd j z (c + d)
bd_near j z w c d h g = two_bounds (ab z) (ab (z ⊞ inv w)) (ab w) c d (U ^ j) (ab-near z w) h g

-- U ^ i may be taken out again
pub bd_unsc : (i j : ℕ) (a : R) (c : ℕ) → Bd (i + j) (sc i a) c → Bd j a c
unfolding sc
bd_unsc i j a c h = le_of_mul-le-mul_right {k = U ^ i} (omega (arith, rw (ab-mul, ab-nat, pow-add) at h)) (pow-U i)
  where
    pow-U : (i : ℕ) → 0 < U ^ i
    pow-U zero = subst (λ (z : ℕ). 0 < z) (sym (pow-zero U)) (lit< tt)
    pow-U (suc i) = subst (λ (z : ℕ). 0 < z) (sym (pow-succ' U i)) (mul-pos U_pos (pow-U i))
