-- The parts of a direction in the basis around a normal, both within document 01's limit on a direction.
-- Proved: the local parts are finite and at most 8 in size (`local_tame`), and one local part is at least 1 / 16 (`local_large`).
-- The last by contradiction: an identity of polynomials gives S times a factor near 1 from the three parts and the errors, all small, so S is small; then the direction's own parts are, and their squares do not add up to 1.
use Rattle.std.proofs.Common.{◌≡◌, ℕ, zero, suc, ◌+◌, ◌*◌, ◌/◌, ◌^◌, ◌<◌, ◌≤◌, Bool, true, false, T, ◌⊎◌, List, [], ◌∷◌, get_or, sym, refl, ap, ◌∙◌, subst, inl, inr, le_trans, le_of_eq, lt_of_le_of_lt, lt_irrefl, mul-le-mul_right, mul-le-mul_left, mul-pos, arith, lit<, lit≤, pow_pos, Float}
use Rattle.floats.proofs.Rounding.{below_or_from}
use Rattle.floats.proofs.Rounding.Units.{U, U_pos, sign}
use Rattle.floats.proofs.Rounding.Error.{Fin, unit_fin}
use Rattle.floats.proofs.Rounding.SignedPoly.{R, ◌⊞◌, ◌⊠◌, inv, nat, Ex, va, li, ◌∔◌, ◌⋆◌, minus, at, eval, vanishes, ab, ab-nat, ab-mul, ab_poly, Q, Bd, bd_more, bd_mul, bd_poly, sc, bd_unsc, lift, lift_ok, Bds, deg, homog, bound, bounded, from_bd}
use Rattle.floats.proofs.Rounding.Expression.{rv, pow1, pow2, Fl, fv, ◌+ᶠ◌, ◌*ᶠ◌, fneg, flo, pd, ex, mg, er, tame, closed, Vars, Sound, sound}
use Rattle.numbers.specs.declared.vec3.Vec3.{Vec3}
use Rattle.floats.specs.Float.{f1, signum}
use Rattle.numbers.specs.Vec3.{vec3, dot}
use Rattle.numbers.specs.Onb.{slope, skew, basis, to_local}
use Rattle.numbers.proofs.vec3.Direction.{Direction, Parts, parts_of, norm2, unit_norm, sg_r, sg_e, Signed, signed_of, Towards, apart, bd_sg, unit_rv, ca, c1, e_e, e18, Slope, slope_of, flip_near, divide}

-- ---- the local parts as expressions of x y z, the normal; p q r, the direction; a, the slope; σ; 1
lx_t : Fl
lx_t = fv 3 *ᶠ (fv 8 +ᶠ fv 7 *ᶠ fv 0 *ᶠ fv 0 *ᶠ fv 6) +ᶠ fv 4 *ᶠ (fv 7 *ᶠ (fv 0 *ᶠ fv 1 *ᶠ fv 6)) +ᶠ fv 5 *ᶠ (fneg (fv 7) *ᶠ fv 0)

ly_t : Fl
ly_t = fv 3 *ᶠ (fv 0 *ᶠ fv 1 *ᶠ fv 6) +ᶠ fv 4 *ᶠ (fv 7 +ᶠ fv 1 *ᶠ fv 1 *ᶠ fv 6) +ᶠ fv 5 *ᶠ fneg (fv 1)

lz_t : Fl
lz_t = fv 3 *ᶠ fv 0 +ᶠ fv 4 *ᶠ fv 1 +ᶠ fv 5 *ᶠ fv 2

abbrev limits : List ℕ
limits = c1 ∷ c1 ∷ c1 ∷ c1 ∷ c1 ∷ c1 ∷ ca ∷ Q ∷ Q ∷ []

abbrev floats : Vec3 → Vec3 → List Float
floats w d = w.x ∷ w.y ∷ w.z ∷ d.x ∷ d.y ∷ d.z ∷ slope w ∷ signum w.z ∷ f1 ∷ []

abbrev lx : Vec3 → Vec3 → Float
lx w d = flo (floats w d) lx_t

abbrev ly : Vec3 → Vec3 → Float
ly w d = flo (floats w d) ly_t

abbrev lz : Vec3 → Vec3 → Float
lz w d = flo (floats w d) lz_t

local_is : (w d : Vec3) → to_local (basis w) d ≡ vec3 (lx w d) (ly w d) (lz w d)
unfolding to_local basis skew dot lx_t ly_t lz_t
local_is w d = refl

-- what is known of the two, where σ is negative if b is true
record Given (w d : Vec3) (b : Bool) : Type 0 where
  pw : Parts w
  pd' : Parts d
  sg : Signed w.z b
  sl : Slope w b

given : (w d : Vec3) → Direction w → Direction d → Given w d (sign w.z)
given w d dw dd =
    let p = parts_of w dw in
    let g = signed_of w.z p.pz.fin in
    record { pw = p; pd' = parts_of d dd; sg = g; sl = slope_of w (sign w.z) p.pz g }

three_vars : (v : Vec3) (ρ : List Float) (β : List ℕ) → Parts v → Vars ρ β → Vars (v.x ∷ v.y ∷ v.z ∷ ρ) (c1 ∷ c1 ∷ c1 ∷ β)
three_vars v ρ β p h = (p.px.fin, p.px.size, (p.py.fin, p.py.size, (p.pz.fin, p.pz.size, h)))

vars : (w d : Vec3) (b : Bool) → Given w d b → Vars (floats w d) limits
vars w d b g =
    let ρ = slope w ∷ signum w.z ∷ f1 ∷ [] in
    let β = ca ∷ Q ∷ Q ∷ [] in
    let one : Vars (f1 ∷ []) (Q ∷ []) = (unit_fin false, rw (unit_rv false) (bd_sg false), tt) in
    let rest : Vars ρ β = (g.sl.fin, g.sl.size, (g.sg.fin, rw g.sg.is (bd_sg b), one)) in
    three_vars w (d.x ∷ d.y ∷ d.z ∷ ρ) (c1 ∷ c1 ∷ c1 ∷ β) g.pw (three_vars d ρ β g.pd' rest)

-- ---- σ and 1 are plus or minus U: as polynomials in U, x, y, z, p, q, r, a alone
abbrev values : List R → List Ex → List R
values ρ [] = []
values ρ (e ∷ es) = eval ρ e ∷ values ρ es

-- the expression es i in place of the variable i
unfoldable plug : List Ex → Ex → Ex
plug es (va i) = get_or es i (li 0)
plug es (li n) = li n
plug es (a ∔ c) = plug es a ∔ plug es c
plug es (a ⋆ c) = plug es a ⋆ plug es c
plug es (minus a) = minus (plug es a)

value_at : (ρ : List R) (es : List Ex) (i : ℕ) → at (values ρ es) i ≡ eval ρ (get_or es i (li 0))
value_at ρ [] i = refl
value_at ρ (e ∷ es) zero = refl
value_at ρ (e ∷ es) (suc i) = value_at ρ es i

plug_ok : (ρ : List R) (es : List Ex) (e : Ex) → eval (values ρ es) e ≡ eval ρ (plug es e)
unfolding plug
plug_ok ρ es (va i) = value_at ρ es i
plug_ok ρ es (li n) = refl
plug_ok ρ es (e ∔ f) = λ i. plug_ok ρ es e i ⊞ plug_ok ρ es f i
plug_ok ρ es (e ⋆ f) = λ i. plug_ok ρ es e i ⊠ plug_ok ρ es f i
plug_ok ρ es (minus e) = λ i. inv (plug_ok ρ es e i)

abbrev exact : Bool → List Ex
exact b = va 0 ∷ va 1 ∷ va 2 ∷ va 3 ∷ va 4 ∷ va 5 ∷ va 6 ∷ va 7 ∷ sg_e b ∷ va 0 ∷ []

sg_ok : (b : Bool) (ρ : List R) → eval (nat U ∷ ρ) (sg_e b) ≡ sg_r b
sg_ok false ρ = refl
sg_ok true ρ = refl

-- the variables of the polynomials: U x y z p q r a, and the local parts
abbrev known : Vec3 → Vec3 → List R → List R
known w d ρ = rv w.x ∷ rv w.y ∷ rv w.z ∷ rv d.x ∷ rv d.y ∷ rv d.z ∷ rv (slope w) ∷ ρ

abbrev tail : Vec3 → Vec3 → List R
tail w d = known w d (rv (lx w d) ∷ rv (ly w d) ∷ rv (lz w d) ∷ [])

abbrev env : Vec3 → Vec3 → List R
env w d = nat U ∷ tail w d

plugged : (w d : Vec3) (b : Bool) → Given w d b → (e : Fl) → Sound (floats w d) limits e
    → Bd (suc (pd e)) (sc (pd e) (rv (flo (floats w d) e)) ⊞ inv (eval (env w d) (plug (exact b) (ex e)))) (er limits e)
plugged w d b g e s =
    let f = sc (pd e) (rv (flo (floats w d) e)) in
    let σ = g.sg.is ∙ sym (sg_ok b (tail w d)) in
    subst (λ (t : R). Bd (suc (pd e)) (f ⊞ inv t) (er limits e))
    ((λ i. eval (nat U ∷ known w d (σ i ∷ unit_rv false i ∷ [])) (ex e)) ∙ plug_ok (env w d) (exact b) (ex e))
    s.near

-- ---- the polynomials: T = x p + y q, S = r - a T, N = x² + y² + z², and the factor G = z + σ N of S
abbrev T₀ : Ex
T₀ = va 1 ⋆ va 4 ∔ va 2 ⋆ va 5

abbrev S₀ : Ex
S₀ = va 6 ⋆ va 0 ⋆ va 0 ∔ minus (va 7 ⋆ T₀)

abbrev N₀ : Ex
N₀ = va 1 ⋆ va 1 ∔ va 2 ⋆ va 2 ∔ va 3 ⋆ va 3

abbrev G₀ : Bool → Ex
G₀ b = va 3 ⋆ va 0 ⋆ va 0 ∔ sg_e b ⋆ N₀

abbrev U3 : Ex → Ex
U3 e = va 0 ⋆ (va 0 ⋆ (va 0 ⋆ e))

abbrev U4 : Ex → Ex
U4 e = va 0 ⋆ U3 e

-- the errors: of the three parts, and of a (σ + z) against -1
εx : Bool → Ex
unfolding plug ex pd lift lx_t
εx b = U4 (va 8) ∔ minus (plug (exact b) (ex lx_t))

εy : Bool → Ex
unfolding plug ex pd lift ly_t
εy b = U3 (va 9) ∔ minus (plug (exact b) (ex ly_t))

εz : Bool → Ex
unfolding plug ex pd lift lz_t
εz b = va 0 ⋆ va 10 ∔ minus (plug (exact b) (ex lz_t))

εE : Bool → Ex
εE b = va 0 ⋆ va 0 ∔ va 7 ⋆ (sg_e b ∔ va 3)

-- G S = σ (σ + z) lz - x lx - σ y ly, up to the errors
abbrev right : Bool → Ex → Ex → Ex → Ex → Ex
right b ex ey ez e_e =
    sg_e b ⋆ (sg_e b ∔ va 3) ⋆ (va 0 ⋆ va 0) ⋆ (va 0 ⋆ va 10 ∔ minus ez)
    ∔ minus (va 1 ⋆ (U4 (va 8) ∔ minus ex))
    ∔ minus (sg_e b ⋆ va 2 ⋆ (U3 (va 9) ∔ minus ey))
    ∔ minus (sg_e b ⋆ va 3 ⋆ T₀ ⋆ e_e)

identity : (b : Bool) → T (vanishes (G₀ b ⋆ S₀ ∔ minus (right b (εx b) (εy b) (εz b) (εE b))))
unfolding vanishes εx εy εz εE
identity false = tt
identity true = tt

-- ---- the errors are at most 2 ^ -44 each
abbrev ε₀ : ℕ
ε₀ = 1048576

-- of the expression e, whose value is the variable i
bound_of : (w d : Vec3) (b : Bool) (e : Fl) (i : ℕ) → Given w d b → T (closed limits e) → T (tame limits e)
    → rv (flo (floats w d) e) ≡ eval (env w d) (va i) → er limits e ≤ ε₀
    → Bd (suc (pd e)) (eval (env w d) (lift (pd e) (va i) ∔ minus (plug (exact b) (ex e)))) ε₀
bound_of w d b e i g c t q l =
    let p = inv (eval (env w d) (plug (exact b) (ex e))) in
    let s = sound (floats w d) limits e (vars w d b g) c t in
    bd_more (suc (pd e)) (eval (env w d) (lift (pd e) (va i)) ⊞ p) (er limits e) ε₀ l
    (subst (λ (z : R). Bd (suc (pd e)) (z ⊞ p) (er limits e)) (ap (λ (z : R). sc (pd e) z) q ∙ sym (lift_ok (tail w d) (pd e) (va i))) (plugged w d b g e s))

bound_εx : (w d : Vec3) (b : Bool) → Given w d b → Bd 5 (eval (env w d) (εx b)) ε₀
unfolding closed tame εx plug ex pd lift lx_t er mg
bound_εx w d b g = bound_of w d b lx_t 8 g tt tt refl (lit≤ tt)

bound_εy : (w d : Vec3) (b : Bool) → Given w d b → Bd 4 (eval (env w d) (εy b)) ε₀
unfolding closed tame εy plug ex pd lift ly_t er mg
bound_εy w d b g = bound_of w d b ly_t 9 g tt tt refl (lit≤ tt)

bound_εz : (w d : Vec3) (b : Bool) → Given w d b → Bd 2 (eval (env w d) (εz b)) ε₀
unfolding closed tame εz plug ex pd lift lz_t er mg
bound_εz w d b g = bound_of w d b lz_t 10 g tt tt refl (lit≤ tt)

bound_εE : (w d : Vec3) (b : Bool) → Given w d b → Bd 2 (eval (env w d) (εE b)) e_e
unfolding εE
bound_εE w d false g = g.sl.near
bound_εE w d true g = g.sl.near

-- ---- where all three parts are at most 1 / 16: a bound on S, then on p, q and r
-- 1 / 16
abbrev m : ℕ
m = 1152921504606846976

-- a little above 1 / 4
abbrev b_s : ℕ
b_s = 4629700416936869888

record Small (w d : Vec3) : Type 0 where
  sx : Bd 1 (rv (lx w d)) m
  sy : Bd 1 (rv (ly w d)) m
  sz : Bd 1 (rv (lz w d)) m

-- the variables of `env`, then the four errors and S
abbrev full : Vec3 → Vec3 → Bool → List R
full w d b =
    let e = env w d in
    nat U ∷ known w d (rv (lx w d) ∷ rv (ly w d) ∷ rv (lz w d) ∷ eval e (εx b) ∷ eval e (εy b) ∷ eval e (εz b) ∷ eval e (εE b) ∷ eval e S₀ ∷ [])

abbrev degs : List ℕ
degs = 1 ∷ 1 ∷ 1 ∷ 1 ∷ 1 ∷ 1 ∷ 1 ∷ 1 ∷ 1 ∷ 1 ∷ 1 ∷ 5 ∷ 4 ∷ 2 ∷ 2 ∷ 3 ∷ []

abbrev lims : ℕ → List ℕ
lims s = Q ∷ c1 ∷ c1 ∷ c1 ∷ c1 ∷ c1 ∷ c1 ∷ ca ∷ m ∷ m ∷ m ∷ ε₀ ∷ ε₀ ∷ ε₀ ∷ e_e ∷ s ∷ []

three_bds : (v : Vec3) (ρ : List R) (κ β : List ℕ) → Parts v → Bds ρ κ β → Bds (rv v.x ∷ rv v.y ∷ rv v.z ∷ ρ) (1 ∷ 1 ∷ 1 ∷ κ) (c1 ∷ c1 ∷ c1 ∷ β)
three_bds v ρ κ β p h = (p.px.size, (p.py.size, (p.pz.size, h)))

known-bds : (w d : Vec3) (b : Bool) (ρ : List R) (κ β : List ℕ) → Given w d b → Bds ρ κ β
    → Bds (nat U ∷ known w d ρ) (1 ∷ 1 ∷ 1 ∷ 1 ∷ 1 ∷ 1 ∷ 1 ∷ 1 ∷ κ) (Q ∷ c1 ∷ c1 ∷ c1 ∷ c1 ∷ c1 ∷ c1 ∷ ca ∷ β)
known-bds w d b ρ κ β g h =
    let a = rv (slope w) ∷ ρ in
    let l = three_bds d a (1 ∷ κ) (ca ∷ β) g.pd' (g.sl.size, h) in
    (bd_sg false, three_bds w (rv d.x ∷ rv d.y ∷ rv d.z ∷ a) (1 ∷ 1 ∷ 1 ∷ 1 ∷ κ) (c1 ∷ c1 ∷ c1 ∷ ca ∷ β) g.pw l)

bds : (w d : Vec3) (b : Bool) (s : ℕ) → Given w d b → Small w d → Bd 3 (eval (env w d) S₀) s → Bds (full w d b) degs (lims s)
bds w d b s g h hs =
    let e = env w d in
    let errors : Bds (eval e (εx b) ∷ eval e (εy b) ∷ eval e (εz b) ∷ eval e (εE b) ∷ eval e S₀ ∷ []) (5 ∷ 4 ∷ 2 ∷ 2 ∷ 3 ∷ []) (ε₀ ∷ ε₀ ∷ ε₀ ∷ e_e ∷ s ∷ []) =
    (bound_εx w d b g, (bound_εy w d b g, (bound_εz w d b g, (bound_εE w d b g, (hs, tt))))) in
    known-bds w d b (rv (lx w d) ∷ rv (ly w d) ∷ rv (lz w d) ∷ eval e (εx b) ∷ eval e (εy b) ∷ eval e (εz b) ∷ eval e (εE b) ∷ eval e S₀ ∷ [])
    (1 ∷ 1 ∷ 1 ∷ 5 ∷ 4 ∷ 2 ∷ 2 ∷ 3 ∷ []) (m ∷ m ∷ m ∷ ε₀ ∷ ε₀ ∷ ε₀ ∷ e_e ∷ s ∷ []) g (h.sx, (h.sy, (h.sz, errors)))

-- what a bound on every variable says of a polynomial
at_most : (w d : Vec3) (b : Bool) (s : ℕ) (e : Ex) (c : ℕ) → Bds (full w d b) degs (lims s) → T (homog degs e) → bound (lims s) e ≤ c
    → Bd (deg degs e) (eval (full w d b) e) c
at_most w d b s e c h t l = bd_more (deg degs e) (eval (full w d b) e) (bound (lims s) e) c l (bounded (full w d b) degs (lims s) e h t)

-- for the first use S is bounded by 5
rough : (w d : Vec3) (b : Bool) → Given w d b → Bd 3 (eval (env w d) S₀) (5 * Q)
unfolding deg homog bound
rough w d b g =
    let κ : List ℕ = 1 ∷ 1 ∷ 1 ∷ 1 ∷ 1 ∷ 1 ∷ 1 ∷ 1 ∷ [] in
    let β : List ℕ = Q ∷ c1 ∷ c1 ∷ c1 ∷ c1 ∷ c1 ∷ c1 ∷ ca ∷ [] in
    bd_more 3 (eval (env w d) S₀) (bound β S₀) (5 * Q) (lit≤ tt) (bounded (nat U ∷ known w d []) κ β S₀ (known-bds w d b [] [] [] g tt) tt)

right_homog : (b : Bool) → T (homog degs (right b (va 11) (va 12) (va 13) (va 14)))
unfolding homog deg
right_homog false = tt
right_homog true = tt

b6 : ℕ
unfolding bound
b6 = bound (lims (5 * Q)) (right false (va 11) (va 12) (va 13) (va 14))

bound_right : (w d : Vec3) (b : Bool) → Given w d b → Small w d → Bd 6 (eval (env w d) (G₀ b ⋆ S₀)) b6
unfolding b6 bound deg εx εy εz εE
bound_right w d false g h =
    let all = bds w d false (5 * Q) g h (rough w d false g) in
    subst (λ (t : ℕ). Q * t ≤ b6 * U ^ 6)
    (sym (ab_poly (env w d) (G₀ false ⋆ S₀) (right false (εx false) (εy false) (εz false) (εE false)) (identity false)))
    (bounded (full w d false) degs (lims (5 * Q)) (right false (va 11) (va 12) (va 13) (va 14)) all (right_homog false))
bound_right w d true g h =
    let all = bds w d true (5 * Q) g h (rough w d true g) in
    subst (λ (t : ℕ). Q * t ≤ b6 * U ^ 6)
    (sym (ab_poly (env w d) (G₀ true ⋆ S₀) (right true (εx true) (εy true) (εz true) (εE true)) (identity true)))
    (bounded (full w d true) degs (lims (5 * Q)) (right true (va 11) (va 12) (va 13) (va 14)) all (right_homog true))

-- the factor of S is at least 1023 / 1024
pow3 : U ^ 3 ≡ U * (U * U)
unfolding U
pow3 = refl

pow6 : U ^ 6 ≡ U ^ 3 * U ^ 3
unfolding U
pow6 = refl

pow3_pos : 0 < U ^ 3
unfolding U
pow3_pos = pow_pos 3222

one_one : ab (nat U ⊠ nat U) ≡ U * U
one_one = ab-mul (nat U) (nat U) ∙ ap (λ (z : ℕ). z * z) (ab-nat U)

factor : (w : Vec3) (b : Bool) → Direction w → Towards b w.z → (ρ : List R)
    → 1023 * U ^ 3 ≤ 1024 * ab (eval (nat U ∷ rv w.x ∷ rv w.y ∷ rv w.z ∷ ρ) (G₀ b))
unfolding vanishes
factor w b dw t ρ =
    let g = eval (nat U ∷ rv w.x ∷ rv w.y ∷ rv w.z ∷ ρ) (G₀ b) in
    let σz = sg_r b ⊞ rv w.z in
    let v = σz ⊠ (nat U ⊠ nat U) in
    let n = norm2 w ⊞ inv (nat U ⊠ nat U) in
    let D = sg_r b ⊠ n in
    let bD : Bd 3 D (Q * e18 / Q + 1) = bd_mul 1 2 (sg_r b) n Q e18 (bd_sg b) (unit_norm w dw) in
    let size-v : ab v ≡ ab σz * (U * U) = ab-mul σz (nat U ⊠ nat U) ∙ ap (λ (z : ℕ). ab σz * z) one_one in
    let av : U ^ 3 ≤ ab v = le_trans (le_of_eq pow3) (le_trans (mul-le-mul_right (U * U) (apart b w.z t)) (le_of_eq (sym size-v))) in
    go (U ^ 3) (ab v) (ab g) (ab D) av (subst (λ (z : ℕ). ab v ≤ ab g + z) (same b) (flip_near g v)) bD
  where
    go : (c v g d : ℕ) → c ≤ v → v ≤ g + d → Q * d ≤ (Q * e18 / Q + 1) * c → 1023 * c ≤ 1024 * g
    go c v g d a b h = omega arith

    normal : List R
    normal = nat U ∷ rv w.x ∷ rv w.y ∷ rv w.z ∷ []

    same : (b : Bool) → ab (eval (nat U ∷ rv w.x ∷ rv w.y ∷ rv w.z ∷ ρ) (G₀ b) ⊞ inv ((sg_r b ⊞ rv w.z) ⊠ (nat U ⊠ nat U)))
        ≡ ab (sg_r b ⊠ (norm2 w ⊞ inv (nat U ⊠ nat U)))
    same false = ab_poly normal (G₀ false ∔ minus ((sg_e false ∔ va 3) ⋆ (va 0 ⋆ va 0))) (sg_e false ⋆ (N₀ ∔ minus (va 0 ⋆ va 0))) tt
    same true = ab_poly normal (G₀ true ∔ minus ((sg_e true ∔ va 3) ⋆ (va 0 ⋆ va 0))) (sg_e true ⋆ (N₀ ∔ minus (va 0 ⋆ va 0))) tt

fine_b6 : 1024 * b6 ≤ 1023 * b_s
unfolding b6 bound
fine_b6 = lit≤ tt

bound_S : (w d : Vec3) (b : Bool) → Direction w → Given w d b → Small w d → Bd 3 (eval (env w d) S₀) b_s
bound_S w d b dw g h =
    let G = eval (env w d) (G₀ b) in
    let S = eval (env w d) S₀ in
    let product : Q * ab (G ⊠ S) ≤ b6 * (U ^ 3 * U ^ 3) = subst (λ (z : ℕ). Q * ab (G ⊠ S) ≤ b6 * z) pow6 (bound_right w d b g h) in
    divide (ab G) (ab S) (U ^ 3) b6 b_s pow3_pos
    (subst (λ (z : ℕ). Q * z ≤ b6 * (U ^ 3 * U ^ 3)) (ab-mul G S) product)
    (factor w b dw g.sg.to (rv d.x ∷ rv d.y ∷ rv d.z ∷ rv (slope w) ∷ rv (lx w d) ∷ rv (ly w d) ∷ rv (lz w d) ∷ []))
    fine_b6

-- ---- p, q, r: from a local part, its error and S
abbrev turn : Bool → Ex → Ex
turn false e = e
turn true e = minus e

abbrev p₀ : Bool → Ex → Ex → Ex
p₀ b e s = U4 (va 8) ∔ minus e ∔ sg_e b ⋆ va 1 ⋆ s

abbrev q₀ : Bool → Ex → Ex → Ex
q₀ b e s = turn b (U3 (va 9) ∔ minus e ∔ va 2 ⋆ s)

abbrev r₀ : Bool → Ex → Ex → Ex → Ex
r₀ b e f s = turn b (T₀ ⋆ f ∔ (sg_e b ∔ va 3) ⋆ s ∔ minus (va 0 ⋆ va 0 ⋆ (va 0 ⋆ va 10 ∔ minus e)))

p_is : (b : Bool) → T (vanishes (p₀ b (εx b) S₀ ∔ minus (U4 (va 4))))
unfolding vanishes εx
p_is false = tt
p_is true = tt

q_is : (b : Bool) → T (vanishes (q₀ b (εy b) S₀ ∔ minus (U3 (va 5))))
unfolding vanishes εy
q_is false = tt
q_is true = tt

r_is : (b : Bool) → T (vanishes (r₀ b (εz b) (εE b) S₀ ∔ minus (U3 (va 6))))
unfolding vanishes εz εE
r_is false = tt
r_is true = tt

-- 0.32 and 0.57
abbrev bp : ℕ
bp = 5902958103587056640

abbrev br : ℕ
br = 10514644122014444544

out4 : (ρ : List R) (i c : ℕ) → Bd 5 (eval (nat U ∷ ρ) (U4 (va i))) c → Bd 1 (eval (nat U ∷ ρ) (va i)) c
unfolding lift
out4 ρ i c h = bd_unsc 4 1 (eval (nat U ∷ ρ) (va i)) c (subst (λ (z : R). Bd 5 z c) (lift_ok ρ 4 (va i)) h)

out3 : (ρ : List R) (i c : ℕ) → Bd 4 (eval (nat U ∷ ρ) (U3 (va i))) c → Bd 1 (eval (nat U ∷ ρ) (va i)) c
unfolding lift
out3 ρ i c h = bd_unsc 3 1 (eval (nat U ∷ ρ) (va i)) c (subst (λ (z : R). Bd 4 z c) (lift_ok ρ 3 (va i)) h)

bound_p : (w d : Vec3) (b : Bool) → Bds (full w d b) degs (lims b_s) → Bd 1 (rv d.x) bp
unfolding bound deg homog εx
bound_p w d false h =
    let l = at_most w d false b_s (p₀ false (va 11) (va 15)) bp h tt (lit≤ tt) in
    out4 (tail w d) 4 bp (bd_poly (env w d) (p₀ false (εx false) S₀) (U4 (va 4)) 5 bp (p_is false) l)
bound_p w d true h =
    let l = at_most w d true b_s (p₀ true (va 11) (va 15)) bp h tt (lit≤ tt) in
    out4 (tail w d) 4 bp (bd_poly (env w d) (p₀ true (εx true) S₀) (U4 (va 4)) 5 bp (p_is true) l)

bound_q : (w d : Vec3) (b : Bool) → Bds (full w d b) degs (lims b_s) → Bd 1 (rv d.y) bp
unfolding bound deg homog εy
bound_q w d false h =
    let l = at_most w d false b_s (q₀ false (va 12) (va 15)) bp h tt (lit≤ tt) in
    out3 (tail w d) 5 bp (bd_poly (env w d) (q₀ false (εy false) S₀) (U3 (va 5)) 4 bp (q_is false) l)
bound_q w d true h =
    let l = at_most w d true b_s (q₀ true (va 12) (va 15)) bp h tt (lit≤ tt) in
    out3 (tail w d) 5 bp (bd_poly (env w d) (q₀ true (εy true) S₀) (U3 (va 5)) 4 bp (q_is true) l)

bound_r : (w d : Vec3) (b : Bool) → Bds (full w d b) degs (lims b_s) → Bd 1 (rv d.z) br
unfolding bound deg homog εz εE
bound_r w d false h =
    let l = at_most w d false b_s (r₀ false (va 13) (va 14) (va 15)) br h tt (lit≤ tt) in
    out3 (tail w d) 6 br (bd_poly (env w d) (r₀ false (εz false) (εE false) S₀) (U3 (va 6)) 4 br (r_is false) l)
bound_r w d true h =
    let l = at_most w d true b_s (r₀ true (va 13) (va 14) (va 15)) br h tt (lit≤ tt) in
    out3 (tail w d) 6 br (bd_poly (env w d) (r₀ true (εz true) (εE true) S₀) (U3 (va 6)) 4 br (r_is true) l)

-- then the sum of their squares is too small
too_small : (d : Vec3) → Direction d → Bd 1 (rv d.x) bp → Bd 1 (rv d.y) bp → Bd 1 (rv d.z) br → ⊥
unfolding bound deg homog
too_small d dd hx hy hz =
    let β = bp ∷ bp ∷ br ∷ [] in
    let e = bound β squares in
    let one = nat U ⊠ nat U in
    let n = ab (norm2 d) in
    let f = ab (norm2 d ⊞ inv one) in
    let s : Bd 2 (norm2 d) e = bounded (rv d.x ∷ rv d.y ∷ rv d.z ∷ []) (1 ∷ 1 ∷ 1 ∷ []) β squares (hx, (hy, (hz, tt))) tt in
    let both = two_bounds n f e e18 (U ^ 2) s (unit_norm d dd) in
    let square-pos = subst (λ (z : ℕ). 0 < z) (sym pow2) (mul-pos U_pos U_pos) in
    go (ab one) n f (U ^ 2) (e + e18) (one_one ∙ sym pow2) (flip_near (norm2 d) one) both (lit< tt) square-pos
  where
    squares : Ex
    squares = va 0 ⋆ va 0 ∔ va 1 ⋆ va 1 ∔ va 2 ⋆ va 2

    two_bounds : (a b c d u : ℕ) → Q * a ≤ c * u → Q * b ≤ d * u → Q * (a + b) ≤ (c + d) * u
    two_bounds a b c d u h k = omega arith

    mul-lt : (u t q : ℕ) → 0 < u → t < q → t * u < q * u
    mul-lt u t q p l = let g = mul-le-mul_right u l in omega arith

    go : (o n f u t : ℕ) → o ≡ u → o ≤ n + f → Q * (n + f) ≤ t * u → t < Q → 0 < u → ⊥
    go o n f u t e h k l p =
        let at_least_lem = mul-le-mul_left Q (le_trans (le_of_eq (sym e)) h) in
        lt_irrefl (Q * u) (lt_of_le_of_lt (le_trans at_least_lem k) (mul-lt u t Q p l))

not_small : (w d : Vec3) → Direction w → Direction d → Small w d → ⊥
not_small w d dw dd h =
    let b = sign w.z in
    let g = given w d dw dd in
    let s = bds w d b b_s g h (bound_S w d b dw g h) in
    too_small d dd (bound_p w d b s) (bound_q w d b s) (bound_r w d b s)

-- ---- the laws
-- finite, and at most 8 in size
pub record Tame (x : Float) : Type 0 where
  pub fin : Fin x
  pub size : ab (rv x) ≤ 8 * U

abbrev pub Tame3 : Vec3 → Type 0
Tame3 v = Tame v.x × Tame v.y × Tame v.z

-- at least 1 / 16 in size
abbrev pub Large : Float → Type 0
Large x = U ≤ 16 * ab (rv x)

tamed : (ρ : List Float) (β : List ℕ) (e : Fl) → Vars ρ β → T (closed β e) → T (tame β e) → mg β e ≤ 8 * Q → Tame (flo ρ e)
tamed ρ β e v c t h =
    let s = sound ρ β e v c t in
    let a = ab (rv (flo ρ e)) in
    record { fin = s.fin; size = from_bd a (mg β e) 8 U (subst (λ (z : ℕ). Q * a ≤ mg β e * z) pow1 s.most) h }

pub local_tame : (w d : Vec3) → Direction w → Direction d → Tame3 (to_local (basis w) d)
unfolding closed tame mg lx_t ly_t lz_t
local_tame w d dw dd =
    let v = vars w d (sign w.z) (given w d dw dd) in
    rw (local_is w d) (
      tamed (floats w d) limits lx_t v tt tt (lit≤ tt),
      tamed (floats w d) limits ly_t v tt tt (lit≤ tt),
      tamed (floats w d) limits lz_t v tt tt (lit≤ tt),
    )

pub local_large : (w d : Vec3) → Direction w → Direction d → let l = to_local (basis w) d in Large l.x ⊎ (Large l.y ⊎ Large l.z)
local_large w d dw dd = rw (local_is w d) (go (size_of (lx w d)) (size_of (ly w d)) (size_of (lz w d)))
  where
    size_of : (x : Float) → (16 * ab (rv x) < U) ⊎ Large x
    size_of x = below_or_from (16 * ab (rv x)) U

    linear : (a u : ℕ) → 16 * a < u → Q * a ≤ m * u
    linear a u h = omega arith

    small : (x : Float) → 16 * ab (rv x) < U → Bd 1 (rv x) m
    small x h = subst (λ (z : ℕ). Q * ab (rv x) ≤ m * z) (sym pow1) (linear (ab (rv x)) U h)

    go : (16 * ab (rv (lx w d)) < U) ⊎ Large (lx w d) → (16 * ab (rv (ly w d)) < U) ⊎ Large (ly w d) → (16 * ab (rv (lz w d)) < U) ⊎ Large (lz w d)
        → Large (lx w d) ⊎ (Large (ly w d) ⊎ Large (lz w d))
    go (inr h) k l = inl h
    go (inl h) (inr k) l = inr (inl k)
    go (inl h) (inl k) (inr l) = inr (inr l)
    go (inl h) (inl k) (inl l) =
        let all : Small w d = record { sx = small (lx w d) h; sy = small (ly w d) k; sz = small (lz w d) l } in
        absurd (not_small w d dw dd all)
