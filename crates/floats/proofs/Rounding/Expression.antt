-- The error of a whole expression of sums, differences and products, by computation.
-- Proved (`sound`): for a tree of operations and bounds on its variables, the result is finite, at most `mg` in size, and within `er` of the polynomial `ex` that it stands for; all three are computed from the tree.
-- By induction on the tree: the error of one operation (`add_bd`, `mul_bd`, from Error) and the errors of the parts, whose sum is an identity of polynomials.
use Rattle.std.proofs.Common.{◌≡◌, refl, sym, ap, ◌∙◌, subst, Bool, true, false, ◌&&◌, ℕ, zero, suc, ◌+◌, ◌-◌, ◌*◌, ◌/◌, ◌^◌, ◌≤◌, ◌<◌, le_trans, le_of_eq, lt_of_le_of_lt, lt_of_lt_of_le, mul-le-mul_right, mul-le-mul_left, le_of_mul-le-mul_right, lt_of_mul-lt-mul_right, mul_comm, arith, T, leb, leb→le, lit≤, lit<, pow-add, Float}
use mathlib.Core.List.{List, [], ◌∷◌}
use Prim.Native.Nat.{max}
use lib.Ieee.{nan, Format, binary64, neg, add, sub, mul}
use lib.Ieee.Fits.{and_l, and_r}
use Rattle.floats.proofs.Rounding.{Near}
use Rattle.floats.proofs.Rounding.Units.{U, O, mag, sub_opens}
use Rattle.floats.proofs.Rounding.Error.{Fin, P, N, M, M/2, add_err, mul_err, neg_parts, sum_mag, one_side}
use Rattle.floats.proofs.Rounding.SignedPoly.{R, ◌⊞◌, ◌⊠◌, inv, nat, Ex, va, ◌∔◌, ◌⋆◌, minus, at, eval, vanishes, Zero, ab, ab-inv, ab-mul, ab_poly, bd_near, Q, Bd, bd_add, bd_mul, num, sc, bd_sc, nat-mul, bd_deg, lift, lift_ok, ⊠-comm, ⊠-assoc, ⊠-add, ⊠-one, bd_unsc}
use lib.ListN.{get_or}

abbrev B : Format
B = binary64

-- a float's value in units
abbrev pub rv : Float → R
rv x = (P x, N x)

pub size-ab : (x : Float) → P x + N x ≡ ab (rv x)
unfolding ab
size-ab x = one_side x

pub size-mag : (x : Float) → ab (rv x) ≡ mag x
size-mag x = sym (size-ab x) ∙ sum_mag x

-- the largest bound that is let through
abbrev pub Lim : ℕ
Lim = 2 ^ 200

room₁ : 2 * 2 ^ 200 * U < Q * O
unfolding U O
room₁ = lit< tt

room₂ : 2 * 2 ^ 200 * (U * U) + Q * U < Q * (O * U)
unfolding U O
room₂ = lit< tt

room₃ : Q * (M/2 * U) ≤ U * U
unfolding U
room₃ = lit≤ tt

pub pow1 : U ^ 1 ≡ U
unfolding U
pow1 = refl

pub pow2 : U ^ 2 ≡ U * U
unfolding U
pow2 = refl

-- one rounding of a number of at most s / Q
abbrev pub ulp : ℕ → ℕ
ulp s = s / M + 1

shrink : (a e s u : ℕ) → M * a ≤ e → Q * e ≤ (s + 1) * u → Q * a ≤ (s / M + 1) * u
shrink a e s u h k = le_of_mul-le-mul_right {k = M} (le_trans (le_of_eq (omega arith)) (le_trans (mul-le-mul_left Q h) (le_trans k (le_trans (mul-le-mul_right u (up s)) (le_of_eq (omega arith)))))) (lit< tt)
  where
    up : (n : ℕ) → n + 1 ≤ M * (n / M + 1)
    up n = omega arith

-- ---- a sum
pub add_bd : (x y : Float) (c d : ℕ) → Fin x → Fin y → Bd 1 (rv x) c → Bd 1 (rv y) d → c + d ≤ Lim
    → Fin (add B x y) × Bd 1 (rv (add B x y) ⊞ inv (rv x ⊞ rv y)) (ulp (c + d)) × Bd 1 (rv (add B x y)) (ulp (c + d) + (c + d))
unfolding ab ◌⊞◌ inv
add_bd x y c d fx fy h k l =
    let z = add B x y in
    let s = c + d in
    let e = ab (rv x) + ab (rv y) in
    let he : Q * e ≤ s * U = sums (ab (rv x)) (ab (rv y)) (subst (λ (w : ℕ). Q * ab (rv x) ≤ c * w) pow1 h) (subst (λ (w : ℕ). Q * ab (rv y) ≤ d * w) pow1 k) in
    let limit : 2 * s * U < O * Q = lt_of_le_of_lt (mul-le-mul_right U (mul-le-mul_left 2 l)) (lt_of_lt_of_le room₁ (le_of_eq (mul_comm Q O))) in
    let small : e + e < O = lt_of_mul-lt-mul_right Q (lt_of_le_of_lt (omega arith) limit) in
    let w = add_err x y e fx fy (side (P x) (N x) (P y) (N y)) (omega arith) small in
    let D = rv z ⊞ inv (rv x ⊞ rv y) in
    let g : M * ab D ≤ e = omega arith in
    let n : Bd 1 D (ulp s) = subst (λ (u : ℕ). Q * ab D ≤ ulp s * u) (sym pow1) (shrink (ab D) e s U g (le_trans he (wide s U))) in
    (w.0, n, bd_near 1 (rv z) (rv x ⊞ rv y) (ulp s) s n (bd_add 1 (rv x) (rv y) c d h k))
  where
    wide : (s u : ℕ) → s * u ≤ (s + 1) * u
    wide s u = omega arith

    sums : (a b : ℕ) → Q * a ≤ c * U → Q * b ≤ d * U → Q * (a + b) ≤ (c + d) * U
    sums a b h k = omega arith

    side : (p n q m : ℕ) → p + q ≤ n + m + ((p - n) + (n - p) + ((q - m) + (m - q)))
    side p n q m = omega arith

-- ---- a product
pub mul_bd : (x y : Float) (c d : ℕ) → Fin x → Fin y → Bd 1 (rv x) c → Bd 1 (rv y) d → c * d / Q + 1 ≤ Lim
    → let m = c * d / Q + 1 in Fin (mul B x y) × Bd 2 (nat U ⊠ rv (mul B x y) ⊞ inv (rv x ⊠ rv y)) (ulp m) × Bd 1 (rv (mul B x y)) (ulp m + m)
unfolding ab ◌⊞◌ inv ◌⊠◌ sc
mul_bd x y c d fx fy h k l =
    let z = mul B x y in
    let m = c * d / Q + 1 in
    let e = ab (rv x) * ab (rv y) in
    let b2 : Bd 2 (rv x ⊠ rv y) m = bd_mul 1 1 (rv x) (rv y) c d h k in
    let he : Q * e ≤ m * (U * U) = subst (λ (w : ℕ). Q * e ≤ m * w) pow2 (subst (λ (w : ℕ). Q * w ≤ m * U ^ 2) (ab-mul (rv x) (rv y)) b2) in
    let pe : (P x + N x) * (P y + N y) ≤ e = le_of_eq (ap (λ (w : ℕ). w * (P y + N y)) (size-ab x) ∙ ap (λ (w : ℕ). ab (rv x) * w) (size-ab y)) in
    let limit = lt_of_le_of_lt (more U (U * U) Q (mul-le-mul_right (U * U) (mul-le-mul_left 2 l))) (lt_of_lt_of_le room₂ (le_of_eq (mul_comm Q (O * U)))) in
    let small : e + e + U < O * U = lt_of_mul-lt-mul_right Q (lt_of_le_of_lt (dbl e m (U * U) Q U he) limit) in
    let w = mul_err x y e fx fy pe small in
    let D = nat U ⊠ rv z ⊞ inv (rv x ⊠ rv y) in
    let g : M * ab D ≤ e + M/2 * U = err U (P z) (N z) (P x * P y + N x * N y) (P x * N y + N x * P y) (e + M/2 * U) w.1 in
    let he' : Q * (e + M/2 * U) ≤ (m + 1) * (U * U) = grow e m (M/2 * U) (U * U) he room₃ in
    let n : Bd 2 D (ulp m) = subst (λ (u : ℕ). Q * ab D ≤ ulp m * u) (sym pow2) (shrink (ab D) (e + M/2 * U) m (U * U) g he') in
    let t : Bd 2 (nat U ⊠ rv z) (ulp m + m) = bd_near 2 (nat U ⊠ rv z) (rv x ⊠ rv y) (ulp m) m n b2 in
    (w.0, n, bd_unsc 1 1 (rv z) (ulp m + m) (subst (λ (u : ℕ). Bd 2 (nat u ⊠ rv z) (ulp m + m)) (sym pow1) t))
  where
    dbl : (e s u q w : ℕ) → q * e ≤ s * u → (e + e + w) * q ≤ 2 * s * u + q * w
    dbl e s u q w h = omega arith

    more : (u uu q : ℕ) {a b : ℕ} → a ≤ b → a + q * u ≤ b + q * u
    more u uu q h = omega arith

    err : (u a b p n e : ℕ) → Near (M * (u * a + n)) (M * (u * b + p)) e → M * ((u * a + 0 * b + n - (u * b + 0 * a + p)) + (u * b + 0 * a + p - (u * a + 0 * b + n))) ≤ e
    err u a b p n e h = go (u * a) (u * b) (u * a + 0 * b) (u * b + 0 * a) (omega arith) (omega arith) h
      where
        go : (A B A' B' : ℕ) → A' ≡ A → B' ≡ B → Near (M * (A + n)) (M * (B + p)) e → M * ((A' + n - (B' + p)) + (B' + p - (A' + n))) ≤ e
        go A B A' B' q r h = omega arith

    grow : (e m t v : ℕ) → Q * e ≤ m * v → Q * t ≤ v → Q * (e + t) ≤ (m + 1) * v
    grow e m t v h k = omega arith

neg-rv : (x : Float) → Fin x → rv (neg x) ≡ inv (rv x)
unfolding inv
neg-rv x f = let n = neg_parts x f in λ i. (n.1 i, n.2 i)

-- ---- trees
pub data Fl : Type 0 where
  fv : ℕ → Fl
  ◌+ᶠ◌ ◌-ᶠ◌ ◌*ᶠ◌ : Fl → Fl → Fl
  fneg : Fl → Fl

infixl 60 ◌+ᶠ◌ ◌-ᶠ◌
infixl 70 ◌*ᶠ◌
abbrev pub fat : List Float → ℕ → Float
fat ρ i = get_or ρ i nan

abbrev pub flo : List Float → Fl → Float
flo ρ (fv i) = fat ρ i
flo ρ (a +ᶠ b) = add B (flo ρ a) (flo ρ b)
flo ρ (a -ᶠ b) = sub B (flo ρ a) (flo ρ b)
flo ρ (a *ᶠ b) = mul B (flo ρ a) (flo ρ b)
flo ρ (fneg a) = neg (flo ρ a)

-- the degree of what it stands for is one more than this
unfoldable pub pd : Fl → ℕ
pd (fv i) = 0
pd (a +ᶠ b) = max (pd a) (pd b)
pd (a -ᶠ b) = max (pd a) (pd b)
pd (a *ᶠ b) = pd a + pd b + 1
pd (fneg a) = pd a

-- what it stands for. Variable 0 is U.
unfoldable pub ex : Fl → Ex
unfolding lift pd
ex (fv i) = va (suc i)
ex (a +ᶠ b) = lift (max (pd a) (pd b) - pd a) (ex a) ∔ lift (max (pd a) (pd b) - pd b) (ex b)
ex (a -ᶠ b) = lift (max (pd a) (pd b) - pd a) (ex a) ∔ minus (lift (max (pd a) (pd b) - pd b) (ex b))
ex (a *ᶠ b) = ex a ⋆ ex b
ex (fneg a) = minus (ex a)

-- how large it is at most
unfoldable pub mg : List ℕ → Fl → ℕ
mg β (fv i) = num β i
mg β (a +ᶠ b) = ulp (mg β a + mg β b) + (mg β a + mg β b)
mg β (a -ᶠ b) = ulp (mg β a + mg β b) + (mg β a + mg β b)
mg β (a *ᶠ b) = ulp (mg β a * mg β b / Q + 1) + (mg β a * mg β b / Q + 1)
mg β (fneg a) = mg β a

-- how far it is off at most
unfoldable pub er : List ℕ → Fl → ℕ
unfolding mg
er β (fv i) = 0
er β (a +ᶠ b) = ulp (mg β a + mg β b) + er β a + er β b
er β (a -ᶠ b) = ulp (mg β a + mg β b) + er β a + er β b
er β (a *ᶠ b) = ulp (mg β a * mg β b / Q + 1) + (er β a * mg β b / Q + 1) + ((er β a + mg β a) * er β b / Q + 1)
er β (fneg a) = er β a

unfoldable pub tame : List ℕ → Fl → Bool
unfolding mg
tame β (fv i) = true
tame β (a +ᶠ b) = leb (mg β a + mg β b) Lim && (tame β a && tame β b)
tame β (a -ᶠ b) = leb (mg β a + mg β b) Lim && (tame β a && tame β b)
tame β (a *ᶠ b) = leb (mg β a * mg β b / Q + 1) Lim && (tame β a && tame β b)
tame β (fneg a) = tame β a

abbrev pub Vars : List Float → List ℕ → Type 0
Vars [] [] = Unit {0}
Vars [] (b ∷ β) = ⊥
Vars (x ∷ ρ) [] = ⊥
Vars (x ∷ ρ) (b ∷ β) = Fin x × Bd 1 (rv x) b × Vars ρ β

abbrev pub vals : List Float → List R
vals [] = []
vals (x ∷ ρ) = rv x ∷ vals ρ

-- the highest variable is there
unfoldable pub has : List ℕ → ℕ → Bool
has [] i = false
has (b ∷ β) zero = true
has (b ∷ β) (suc i) = has β i

unfoldable pub closed : List ℕ → Fl → Bool
unfolding has
closed β (fv i) = has β i
closed β (a +ᶠ b) = closed β a && closed β b
closed β (a -ᶠ b) = closed β a && closed β b
closed β (a *ᶠ b) = closed β a && closed β b
closed β (fneg a) = closed β a

pub record Sound (ρ : List Float) (β : List ℕ) (e : Fl) : Type 0 where
  pub fin : Fin (flo ρ e)
  pub near : Bd (suc (pd e)) (sc (pd e) (rv (flo ρ e)) ⊞ inv (eval (nat U ∷ vals ρ) (ex e))) (er β e)
  pub most : Bd 1 (rv (flo ρ e)) (mg β e)

nothing : (j : ℕ) (a b : R) → Zero (a ⊞ inv b) → Bd j (a ⊞ inv b) 0
unfolding ab
nothing j a b h = zero-ab (a ⊞ inv b).0 (a ⊞ inv b).1 h
  where
    zero-ab : (p n : ℕ) → p ≡ n → Q * ((p - n) + (n - p)) ≤ 0 * U ^ j
    zero-ab p n h = let e : (p - n) + (n - p) ≡ 0 = omega arith in rw e (omega arith)

pub sc0 : (a : R) → sc 0 a ≡ a
unfolding sc U
sc0 a = ⊠-one a

self_zero : (a : R) → Zero (a ⊞ inv a)
unfolding ◌⊞◌ inv
self_zero a = omega arith

var_sound : (ρ : List Float) (β : List ℕ) (i : ℕ) → Vars ρ β → T (has β i) → Fin (fat ρ i) × (at (vals ρ) i ≡ rv (fat ρ i)) × Bd 1 (rv (fat ρ i)) (num β i)
unfolding has
var_sound [] [] i h t = absurd t
var_sound [] (b ∷ β) i h t = absurd h
var_sound (x ∷ ρ) [] i h t = absurd h
var_sound (x ∷ ρ) (b ∷ β) zero h t = (h.0, refl, h.1)
var_sound (x ∷ ρ) (b ∷ β) (suc i) h t = var_sound ρ β i h.2 t

-- U^p Z - (U^(p-a) A + U^(p-b) C), where p is the larger of a and b
add-near : (a b : ℕ) (X Y Z A C : R) (δ e f : ℕ) → Bd 1 (Z ⊞ inv (X ⊞ Y)) δ → Bd (suc a) (sc a X ⊞ inv A) e → Bd (suc b) (sc b Y ⊞ inv C) f
    → let p = max a b in Bd (suc p) (sc p Z ⊞ inv (sc (p - a) A ⊞ sc (p - b) C)) (δ + e + f)
unfolding vanishes sc
add-near a b X Y Z A C δ e f h g l =
    let p = max a b in
    let α = nat (U ^ (p - a)) in
    let γ = nat (U ^ (p - b)) in
    let D = Z ⊞ inv (X ⊞ Y) in
    let E = sc a X ⊞ inv A in
    let F = sc b Y ⊞ inv C in
    let t₁ = bd_deg (p + 1) (suc p) (sc p D) δ (omega arith) (bd_sc p 1 D δ h) in
    let t₂ = bd_deg (p - a + suc a) (suc p) (sc (p - a) E) e (omega arith) (bd_sc (p - a) (suc a) E e g) in
    let t₃ = bd_deg (p - b + suc b) (suc p) (sc (p - b) F) f (omega arith) (bd_sc (p - b) (suc b) F f l) in
    let t₁₂ = bd_add (suc p) (sc p D) (sc (p - a) E) δ e t₁ t₂ in
    let s = bd_add (suc p) (sc p D ⊞ sc (p - a) E) (sc (p - b) F) (δ + e) f t₁₂ t₃ in
    let ea : nat (U ^ p) ≡ α ⊠ nat (U ^ a) = split p a (omega arith) in
    let eb : nat (U ^ p) ≡ γ ⊠ nat (U ^ b) = split p b (omega arith) in
    subst (λ (z : ℕ). Q * z ≤ (δ + e + f) * U ^ suc p) (same (nat (U ^ p)) α (nat (U ^ a)) γ (nat (U ^ b)) X Y Z A C ea eb) s
  where
    split : (p a : ℕ) → a ≤ p → nat (U ^ p) ≡ nat (U ^ (p - a)) ⊠ nat (U ^ a)
    split p a h = ap (λ (z : ℕ). nat z) (ap (λ (z : ℕ). U ^ z) (omega arith) ∙ pow-add U (p - a) a) ∙ nat-mul (U ^ (p - a)) (U ^ a)

    -- α (wa X - A) is w X - A α, where w is α wa
    spread : (w α wa X A : R) → w ≡ α ⊠ wa → α ⊠ (wa ⊠ X ⊞ inv A) ≡ w ⊠ X ⊞ inv A ⊠ α
    spread w α wa X A p =
        ⊠-comm α (wa ⊠ X ⊞ inv A)
        ∙ ⊠-add (wa ⊠ X) (inv A) α
        ∙ ap (λ (z : R). z ⊞ inv A ⊠ α) (⊠-comm (wa ⊠ X) α ∙ sym (⊠-assoc α wa X) ∙ ap (λ (z : R). z ⊠ X) (sym p))

    same : (w α wa γ wb X Y Z A C : R) → w ≡ α ⊠ wa → w ≡ γ ⊠ wb
        → ab (w ⊠ (Z ⊞ inv (X ⊞ Y)) ⊞ α ⊠ (wa ⊠ X ⊞ inv A) ⊞ γ ⊠ (wb ⊠ Y ⊞ inv C)) ≡ ab (w ⊠ Z ⊞ inv (α ⊠ A ⊞ γ ⊠ C))
    same w α wa γ wb X Y Z A C p q =
        let D = w ⊠ (Z ⊞ inv (X ⊞ Y)) in
        (λ i. ab (D ⊞ spread w α wa X A p i ⊞ spread w γ wb Y C q i))
        ∙ ab_poly (w ∷ α ∷ γ ∷ X ∷ Y ∷ Z ∷ A ∷ C ∷ [])
        (va 0 ⋆ (va 5 ∔ minus (va 3 ∔ va 4)) ∔ (va 0 ⋆ va 3 ∔ minus (va 6) ⋆ va 1) ∔ (va 0 ⋆ va 4 ∔ minus (va 7) ⋆ va 2))
        (va 0 ⋆ va 5 ∔ minus (va 1 ⋆ va 6 ∔ va 2 ⋆ va 7)) tt

mul-near : (a b : ℕ) (X Y Z A C : R) (δ e f m n : ℕ) → Bd 2 (nat U ⊠ Z ⊞ inv (X ⊠ Y)) δ
    → Bd (suc a) (sc a X ⊞ inv A) e → Bd (suc b) (sc b Y ⊞ inv C) f → Bd 1 X m → Bd 1 Y n
    → Bd (suc (a + b + 1)) (sc (a + b + 1) Z ⊞ inv (A ⊠ C)) (δ + (e * n / Q + 1) + ((e + m) * f / Q + 1))
unfolding vanishes sc
mul-near a b X Y Z A C δ e f m n h g l hx hy =
    let d = suc (a + b + 1) in
    let D = nat U ⊠ Z ⊞ inv (X ⊠ Y) in
    let E = sc a X ⊞ inv A in
    let F = sc b Y ⊞ inv C in
    let turned : ab E ≡ ab (A ⊞ inv (sc a X)) = ab_poly (sc a X ∷ A ∷ []) (va 0 ∔ minus (va 1)) (minus (va 1 ∔ minus (va 0))) tt ∙ ab-inv (A ⊞ inv (sc a X)) in
    let g' : Bd (suc a) (A ⊞ inv (sc a X)) e = subst (λ (z : ℕ). Q * z ≤ e * U ^ suc a) turned g in
    let bX : Bd (suc a) (sc a X) m = bd_deg (a + 1) (suc a) (sc a X) m (omega arith) (bd_sc a 1 X m hx) in
    let bA : Bd (suc a) A (e + m) = bd_near (suc a) A (sc a X) e m g' bX in
    let u = e * n / Q + 1 in
    let v = (e + m) * f / Q + 1 in
    let t₁ = bd_deg (a + b + 2) d (sc (a + b) D) δ (omega arith) (bd_sc (a + b) 2 D δ h) in
    let t₂ = bd_deg (suc a + (b + 1)) d (E ⊠ sc b Y) u (omega arith) (bd_mul (suc a) (b + 1) E (sc b Y) e n g (bd_sc b 1 Y n hy)) in
    let t₃ = bd_deg (suc a + suc b) d (A ⊠ F) v (omega arith) (bd_mul (suc a) (suc b) A F (e + m) f bA l) in
    let t₁₂ = bd_add d (sc (a + b) D) (E ⊠ sc b Y) δ u t₁ t₂ in
    let s = bd_add d (sc (a + b) D ⊞ E ⊠ sc b Y) (A ⊠ F) (δ + u) v t₁₂ t₃ in
    let w : nat (U ^ (a + b)) ≡ nat (U ^ a) ⊠ nat (U ^ b) = ap (λ (z : ℕ). nat z) (pow-add U a b) ∙ nat-mul (U ^ a) (U ^ b) in
    let one_more : U ^ (a + b + 1) ≡ U ^ (a + b) * U = pow-add U (a + b) 1 ∙ ap (λ (z : ℕ). U ^ (a + b) * z) pow1 in
    let w' : nat (U ^ (a + b + 1)) ≡ nat (U ^ a) ⊠ nat (U ^ b) ⊠ nat U = ap (λ (z : ℕ). nat z) one_more ∙ nat-mul (U ^ (a + b)) U ∙ ap (λ (z : R). z ⊠ nat U) w in
    subst (λ (z : ℕ). Q * z ≤ (δ + u + v) * U ^ d)
    (same (nat (U ^ (a + b))) (nat (U ^ (a + b + 1))) (nat (U ^ a)) (nat (U ^ b)) (nat U) X Y Z A C w w') s
  where
    same : (v w α β u X Y Z A C : R) → v ≡ α ⊠ β → w ≡ α ⊠ β ⊠ u
        → ab (v ⊠ (u ⊠ Z ⊞ inv (X ⊠ Y)) ⊞ (α ⊠ X ⊞ inv A) ⊠ (β ⊠ Y) ⊞ A ⊠ (β ⊠ Y ⊞ inv C)) ≡ ab (w ⊠ Z ⊞ inv (A ⊠ C))
    same v w α β u X Y Z A C p q =
        ap (λ (z : R). ab (z ⊠ (u ⊠ Z ⊞ inv (X ⊠ Y)) ⊞ (α ⊠ X ⊞ inv A) ⊠ (β ⊠ Y) ⊞ A ⊠ (β ⊠ Y ⊞ inv C))) p
        ∙ ab_poly (α ∷ β ∷ u ∷ X ∷ Y ∷ Z ∷ A ∷ C ∷ [])
        (va 0 ⋆ va 1 ⋆ (va 2 ⋆ va 5 ∔ minus (va 3 ⋆ va 4)) ∔ (va 0 ⋆ va 3 ∔ minus (va 6)) ⋆ (va 1 ⋆ va 4) ∔ va 6 ⋆ (va 1 ⋆ va 4 ∔ minus (va 7)))
        (va 0 ⋆ va 1 ⋆ va 2 ⋆ va 5 ∔ minus (va 6 ⋆ va 7)) tt
        ∙ ap (λ (z : R). ab (z ⊠ Z ⊞ inv (A ⊠ C))) (sym q)

inv-near : (j : ℕ) (p : ℕ) (X A : R) (e : ℕ) → Bd j (sc p X ⊞ inv A) e → Bd j (sc p (inv X) ⊞ inv (inv A)) e
unfolding vanishes sc
inv-near j p X A e h =
    let turned = ab_poly (nat (U ^ p) ∷ X ∷ A ∷ []) (minus (va 0 ⋆ va 1 ∔ minus (va 2))) (va 0 ⋆ minus (va 1) ∔ minus (minus (va 2))) tt in
    subst (λ (z : ℕ). Q * z ≤ e * U ^ j) (sym (ab-inv (sc p X ⊞ inv A)) ∙ turned) h

inv-sc : (p : ℕ) (A : R) → inv (sc p A) ≡ sc p (inv A)
unfolding sc inv ◌⊠◌
inv-sc p A = λ i. (h (U ^ p) A.0 A.1 i, h (U ^ p) A.1 A.0 i)
  where
    h : (u a b : ℕ) → u * b + 0 * a ≡ u * b + 0 * a
    h u a b = refl

sum_sound : (ρ : List Float) (β : List ℕ) (a b : Fl) → Sound ρ β a → Sound ρ β b → mg β a + mg β b ≤ Lim → Sound ρ β (a +ᶠ b)
unfolding pd ex mg er
sum_sound ρ β a b s t l =
    let x = flo ρ a in
    let y = flo ρ b in
    let γ = nat U ∷ vals ρ in
    let w = add_bd x y (mg β a) (mg β b) s.fin t.fin s.most t.most l in
    let p = max (pd a) (pd b) in
    record {
      fin = w.0;
      near = rw (lift_ok (vals ρ) (p - pd a) (ex a), lift_ok (vals ρ) (p - pd b) (ex b))
          (add-near (pd a) (pd b) (rv x) (rv y) (rv (add B x y)) (eval γ (ex a)) (eval γ (ex b)) (ulp (mg β a + mg β b)) (er β a) (er β b) w.1 s.near t.near);
      most = w.2;
    }

neg_sound : (ρ : List Float) (β : List ℕ) (a : Fl) → Sound ρ β a → Sound ρ β (fneg a)
unfolding pd ex mg er
neg_sound ρ β a s =
    let x = flo ρ a in
    let e = neg-rv x s.fin in
    record {
      fin = (neg_parts x s.fin).0;
      near = rw e (inv-near (suc (pd a)) (pd a) (rv x) (eval (nat U ∷ vals ρ) (ex a)) (er β a) s.near);
      most = rw (e, ab-inv) s.most;
    }

mul_sound : (ρ : List Float) (β : List ℕ) (a b : Fl) → Sound ρ β a → Sound ρ β b → mg β a * mg β b / Q + 1 ≤ Lim → Sound ρ β (a *ᶠ b)
unfolding pd ex mg er
mul_sound ρ β a b s t l =
    let x = flo ρ a in
    let y = flo ρ b in
    let γ = nat U ∷ vals ρ in
    let w = mul_bd x y (mg β a) (mg β b) s.fin t.fin s.most t.most l in
    record {
      fin = w.0;
      near = mul-near (pd a) (pd b) (rv x) (rv y) (rv (mul B x y)) (eval γ (ex a)) (eval γ (ex b)) (ulp (mg β a * mg β b / Q + 1)) (er β a) (er β b) (mg β a) (mg β b) w.1 s.near t.near s.most t.most;
      most = w.2;
    }

-- a difference is a sum
sub_sound : (ρ : List Float) (β : List ℕ) (a b : Fl) → Sound ρ β (a +ᶠ fneg b) → Sound ρ β (a -ᶠ b)
unfolding pd ex mg er
sub_sound ρ β a b s =
    let γ = nat U ∷ vals ρ in
    let p = max (pd a) (pd b) in
    let e = sub_opens (flo ρ a) (flo ρ b) in
    record {
      fin = rw e s.fin;
      near = rw (e, lift_ok (vals ρ) (p - pd b) (ex b), inv-sc (p - pd b) (eval γ (ex b)), ← lift_ok (vals ρ) (p - pd b) (minus (ex b))) s.near;
      most = rw e s.most;
    }

pub sound : (ρ : List Float) (β : List ℕ) (e : Fl) → Vars ρ β → T (closed β e) → T (tame β e) → Sound ρ β e
unfolding pd ex mg er tame closed
sound ρ β (fv i) h c t =
    let w = var_sound ρ β i h c in
    record { fin = w.0; near = rw (sc0, w.1) (nothing 1 (rv (fat ρ i)) (rv (fat ρ i)) (self_zero (rv (fat ρ i)))); most = w.2 }
sound ρ β (a +ᶠ b) h c t =
    let q = leb (mg β a + mg β b) Lim in
    let t' = and_r q (tame β a && tame β b) t in
    let l = leb→le (mg β a + mg β b) Lim (and_l q (tame β a && tame β b) t) in
    let sa = sound ρ β a h (and_l (closed β a) (closed β b) c) (and_l (tame β a) (tame β b) t') in
    let sb = sound ρ β b h (and_r (closed β a) (closed β b) c) (and_r (tame β a) (tame β b) t') in
    sum_sound ρ β a b sa sb l
sound ρ β (a -ᶠ b) h c t =
    let q = leb (mg β a + mg β b) Lim in
    let t' = and_r q (tame β a && tame β b) t in
    let l = leb→le (mg β a + mg β b) Lim (and_l q (tame β a && tame β b) t) in
    let sa = sound ρ β a h (and_l (closed β a) (closed β b) c) (and_l (tame β a) (tame β b) t') in
    let sb = sound ρ β b h (and_r (closed β a) (closed β b) c) (and_r (tame β a) (tame β b) t') in
    sub_sound ρ β a b (sum_sound ρ β a (fneg b) sa (neg_sound ρ β b sb) l)
sound ρ β (a *ᶠ b) h c t =
    let q = leb (mg β a * mg β b / Q + 1) Lim in
    let t' = and_r q (tame β a && tame β b) t in
    let l = leb→le (mg β a * mg β b / Q + 1) Lim (and_l q (tame β a && tame β b) t) in
    let sa = sound ρ β a h (and_l (closed β a) (closed β b) c) (and_l (tame β a) (tame β b) t') in
    let sb = sound ρ β b h (and_r (closed β a) (closed β b) c) (and_r (tame β a) (tame β b) t') in
    mul_sound ρ β a b sa sb l
sound ρ β (fneg a) h c t = neg_sound ρ β a (sound ρ β a h c t)
