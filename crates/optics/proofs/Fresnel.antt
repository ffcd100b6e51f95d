-- The Fresnel term for a real index is from 0 to 1.
-- Proved (`fr_real-share`): for a cosine of at most 64 in size and an index from 1 / 2 ^ 14 to 2 ^ 14, on either side of the surface,
-- `fr_real` is finite and from 0 to 1; so is `fresnel` where k is zero (`fresnel-share`). Where the sine's square is not 1 or more the
-- root inside is at least `index_most` units (`inner`), so both quotients have a divisor above 0, and the square of each is from 0 to 1 by
-- `contrast` of Shares.
use Rattle.std.proofs.Common.{◌≡◌, refl, sym, ap, ◌∙◌, subst, inl, inr, [], ◌∷◌, Bool, true, false, not, ◌||◌, cond, ℕ, zero, suc, ◌+◌, ◌-◌, ◌*◌, ◌^◌, ◌≤◌, ◌<◌, zero-le, le_trans, le_of_eq, lt_of_le_of_lt, lt_of_lt_of_le, lt_irrefl, mul-le-mul_right, mul-le-mul_left, mul-le-mul, le_of_mul-le-mul_right, mul-pos, mul_comm, mul_assoc, zero-lt-suc, le_of_lt, one-mul, arith, T, eqb, eqb→eq, lit≤, lit<, T_not, Float}
use mathlib.Core.Bool.{beq}
use lib.Ieee.{nan, inf, fin, Format, binary64, up, down, neg, le, lt, eq, fits}
use lib.Ieee.Fits.{and_l, mul-fits, div-fits, sub-fits}
use Rattle.floats.proofs.Rounding.{rnd, rnd_fix, below_or_from}
use Rattle.floats.proofs.Rounding.Units.{U, O, U_pos, U_O, Is, is_of, sign, mag, pp, nn, neg_is, sub_opens, zero_units}
use Rattle.floats.proofs.Rounding.NonNegative.{Ext, Fine, ext_le, finite_ext, nil_ext, unit_ext, mul_ext, div_ext, sub-fine, add_ext, fine_under, share_of, inside, U_held, rnd-ge, rnd-le, fine_pos, ext_pos, two_U, two_O, unit_fine}
use Rattle.floats.proofs.Rounding.Shares.{contrast as contrast-share, Share, f1-share}
use Rattle.floats.proofs.Rounding.Error.{Fin, P, N, M, parts, parts_le}
use Rattle.floats.proofs.square_root.WholeRoot.{RootErr}
use Rattle.floats.proofs.Rounding.Expression.{fv, ◌-ᶠ◌, ◌*ᶠ◌, mg, tame, closed}
use Rattle.numbers.proofs.dense_spectrum.Interpolation.{Around, Index, index_bits, index_most}
use Rattle.floats.specs.Float.{◌⊕◌, ◌⊖◌, ◌⊗◌, ◌⊘◌, f0, f1, f2, abs}
use Rattle.floats.specs.SquareRoot.{sqrt}
use Rattle.optics.specs.Fresnel.{index_from, sin2_i, is_total, cos_i, contrast, mean_square, unpolarized, fr_facing, fr_real, fr_complex, fresnel}
use Rattle.floats.proofs.Rounding.Sizes.{Upto, widen, expression, f1_upto, f1_parts, f2_units, held_O, ext_N, root_max, held_power, factor_pos, divide, fine_N, pos_of}
use Rattle.floats.proofs.square_root.RootOrZero.{rooted}

abbrev B : Format
B = binary64

pub le-nil : (x : Float) → Fin x → N x ≡ 0 → T (le f0 x)
le-nil x f n = ext_le f0 x 0 (mag x) nil_ext (ext_N x f n) zero-le

held1 : rnd 53 1 1 ≡ 1
held1 = rnd_fix 53 1 0 (lit< tt)

-- ---- the index: from 1 / `index_most` to `index_most`
unfoldable low_U : ℕ
low_U = 2 ^ (1074 - index_bits)

low_is : (index_most * low_U ≡ U) × (rnd 53 low_U 1 ≡ low_U)
unfolding U low_U
low_is = (refl, rnd_fix 53 1 (1074 - index_bits) (lit< tt))

around_pos : (k : ℕ) (e : Float) → Around k e → 0 < mag e
around_pos k e h = factor_pos k (mag e) (lt_of_lt_of_le U_pos h.low)

pub index_pos : (e : Float) → Index e → 0 < mag e
index_pos e h = around_pos index_most e h

-- what compares equal to 0 has no units
zero_sized : (e : Float) → Fin e → T (eq e f0) → mag e ≡ 0
unfolding eq
zero_sized nan f t = absurd f.0
zero_sized (inf s) f t = absurd f.0
zero_sized (fin s m e) f t =
    let a = m * up e * 1 in
    let same = eqb→eq a (0 * 1 * down e) (and_l (eqb a (0 * 1 * down e)) (beq s false || eqb a 0) t) in
    none (mag (fin s m e)) (is_of (fin s m e) tt f.1).0.1 (omega arith)
  where
    null : (a b : ℕ) → 0 * a * b ≡ 0 * b
    null a b = omega arith

    none : (n : ℕ) → m * up e * U ≡ n * down e → m * up e ≡ 0 → n ≡ 0
    none zero h z = refl
    none (suc n) h z = absurd (zero_units (suc n) e (zero-lt-suc n) (null (up e) U ∙ ap (λ (k : ℕ). k * U) (sym z) ∙ h))

-- so an index is not 0
pub index_not-zero : (e : Float) → Index e → eq e f0 ≡ false
index_not-zero e h = go (eq e f0) refl
  where
    no_zero : eq e f0 ≡ true → ⊥
    no_zero q = lt_irrefl 0 (subst (λ (n : ℕ). 0 < n) (zero_sized e h.fin (subst (λ (b : Bool). T b) (sym q) tt)) (index_pos e h))

    go : (b : Bool) → eq e f0 ≡ b → eq e f0 ≡ false
    go false q = q
    go true q = absurd (no_zero q)

-- a quotient, rounded once, of values whose ranges multiply to an index's
pub quotient-index : (k l : ℕ) (x y : Float) → 0 < k → k * l ≡ index_most → Around k x → Around l y → Index (x ⊘ y)
quotient-index k l x y k0 kl hx hy =
    let a = mag x in
    let b = mag y in
    let r = rnd 53 (a * U) b in
    let p = around_pos l y hy in
    let o = held_power index_bits (lit≤ tt) in
    let e : Ext (x ⊘ y) r = div_ext x y a b (fine_N x hx.fin hx.above) (fine_N y hy.fin hy.above) p in
    let high = le_trans (mul-le-mul hx.high hy.low) (le_of_eq (re k l U b ∙ ap (λ (z : ℕ). z * U * b) kl)) in
    let hi : r ≤ index_most * U = rnd-le (index_most * U) (a * U) b p o.0 high in
    let unit : low_U * l * k ≡ U = re2 low_U l k ∙ ap (λ (z : ℕ). z * low_U) kl ∙ low_is.0 in
    let share : low_U * l ≤ a = le_of_mul-le-mul_right {k = k} (le_trans (le_of_eq unit) (le_trans hx.low (le_of_eq (mul_comm k a)))) k0 in
    let low = le_trans (mul-le-mul_left low_U hy.high) (le_trans (le_of_eq (sym (mul_assoc low_U l U))) (mul-le-mul_right U share)) in
    let lo : low_U ≤ r = rnd-ge low_U (a * U) b p low_is.1 low in
    let q = pos_of (x ⊘ y) r (div-fits B x y) e (lt_of_le_of_lt hi o.1) in
    record {
      fin = q.fin;
      above = q.zero_N;
      low = subst (λ (z : ℕ). U ≤ index_most * z) (sym q.is) (le_trans (le_of_eq (sym low_is.0)) (mul-le-mul_left index_most lo));
      high = le_trans (le_of_eq q.is) hi;
    }
  where
    re : (k l u b : ℕ) → k * u * (l * b) ≡ k * l * u * b
    re k l u b = omega arith

    re2 : (w l k : ℕ) → w * l * k ≡ k * l * w
    re2 w l k = omega arith

one_around : Around 1 f1
unfolding lib.Ieee.fits N U
one_around = record { fin = (tt, tt); above = refl; low = lit≤ tt; high = lit≤ tt }

pub index_inverse : (e : Float) → Index e → Index (f1 ⊘ e)
index_inverse e h = quotient-index 1 index_most f1 e (lit< tt) refl one_around h

pub index_from_lem : (c e : Float) → Index e → Index (index_from c e)
unfolding index_from
index_from_lem c e i = go (lt c f0)
  where
    go : (b : Bool) → Index (cond b (f1 ⊘ e) e)
    go true = index_inverse e i
    go false = i

-- ---- the square of the index
abbrev square_bits : ℕ
square_bits = 2 * index_bits

abbrev pub square_most : ℕ
square_most = 2 ^ square_bits

unfoldable low2 : ℕ
low2 = 2 ^ (1074 - square_bits)

low2_is : (square_most * low2 ≡ U) × (rnd 53 low2 1 ≡ low2)
unfolding U low2
low2_is = (refl, rnd_fix 53 1 (1074 - square_bits) (lit< tt))

pub index-square : (e : Float) → Index e → Fin (e ⊗ e) × (U ≤ square_most * mag (e ⊗ e))
index-square e h =
    let a = mag e in
    let f = fine_N e h.fin h.above in
    let r = rnd 53 (a * a * U) (U * U) in
    let p = mul-pos U_pos U_pos in
    let high = le_trans (mul-le-mul_right U (mul-le-mul h.high h.high)) (le_of_eq (re U)) in
    let o = held_power square_bits (lit≤ tt) in
    let hi : r ≤ square_most * U = rnd-le (square_most * U) (a * a * U) (U * U) p o.0 high in
    let square = le_trans (mul-le-mul_right U (mul-le-mul h.low h.low)) (le_of_eq (re3 a U)) in
    let low = le_trans (le_of_eq (re2 low2 U low2_is.0)) square in
    let lo : low2 ≤ r = rnd-ge low2 (a * a * U) (U * U) p low2_is.1 (le_of_mul-le-mul_right {k = square_most} low (lit< tt)) in
    let q = pos_of (e ⊗ e) r (mul-fits B e e) (mul_ext e e a a f f) (lt_of_le_of_lt hi o.1) in
    (q.fin, subst (λ (z : ℕ). U ≤ square_most * z) (sym q.is) (le_trans (le_of_eq (sym low2_is.0)) (mul-le-mul_left square_most lo)))
  where
    re : (u : ℕ) → index_most * u * (index_most * u) * u ≡ square_most * u * (u * u)
    re u = omega arith

    re2 : (l u : ℕ) → square_most * l ≡ u → l * (u * u) * square_most ≡ u * u * u
    re2 l u h = rw (← h) (omega arith)

    re3 : (a u : ℕ) → index_most * a * (index_most * a) * u ≡ a * a * u * square_most
    re3 a u = omega arith

-- ---- the sine's square inside
-- 8192 by the least square
abbrev sin2_bits : ℕ
sin2_bits = 13 + square_bits

abbrev pub sin2_most : ℕ
sin2_most = 2 ^ sin2_bits

pub sin2_upto : (c e : Float) → Upto 64 c → Index e → Upto sin2_most (sin2_i c e)
unfolding closed tame mg sin2_i
sin2_upto c e h i =
    let w = expression 8192 (f1 ∷ c ∷ []) (1 ∷ 64 ∷ []) (fv 0 -ᶠ fv 1 *ᶠ fv 1) (f1_upto, (h, tt)) tt tt (lit≤ tt) in
    let q = index-square e i in
    divide 8192 square_most (f1 ⊖ c ⊗ c) (e ⊗ e) (held_power sin2_bits (lit≤ tt)) w q.0 q.1

-- ---- where it is not 1 or more, the cosine inside is above 0
nle_parts : (x y : Float) → Fin x → Fin y → T (not (le x y)) → P y + N x < P x + N y
nle_parts x y f g t = elim (below_or_from (P y + N x) (P x + N y)) [ inl l ↦ l | inr h ↦ absurd (T_not (le x y) t (parts_le x y f g h)) ]

-- 1 - s is above 0, or the infinity
pub gap : (s : Float) → Fin s → T (not (le f1 s)) → (n : ℕ) × Ext (f1 ⊖ s) n × (0 < n)
unfolding P N
gap s f t = go (sign s) refl (nle_parts f1 s f1_upto.fin f t)
  where
    a : ℕ
    a = mag s

    is : Is s (sign s) a
    is = (is_of s f.0 f.1).0

    some : (n : ℕ) → 1 ≤ n → 0 < rnd 53 n 1
    some n p = rnd-ge 1 n 1 (lit< tt) held1 (le_trans (lit≤ tt) p)

    go : (b : Bool) → sign s ≡ b → P s + N f1 < P f1 + N s → (n : ℕ) × Ext (f1 ⊖ s) n × (0 < n)
    go false e st =
        let p = ap (λ (b : Bool). pp b a) e in
        let n = ap (λ (b : Bool). nn b a) e in
        let l : a < U = lin a U (P s) (N s) (P f1) (N f1) p n f1_parts.0 f1_parts.1 st in
        let fine-s : Fine s a = (false, subst (λ (b : Bool). Is s b a) e is, refl) in
        (rnd 53 (U - a) 1, sub-fine f1 s U a unit_fine fine-s (le_of_lt l), some (U - a) (omega arith))
      where
        lin : (a u p n c d : ℕ) → p ≡ a → n ≡ 0 → c ≡ u → d ≡ 0 → p + d < c + n → a < u
        lin a u p n c d h₁ h₂ h₃ h₄ h₅ = omega arith
    go true e st =
        let i : Is (neg s) false a = neg_is s true a (subst (λ (b : Bool). Is s b a) e is) in
        let sum = add_ext f1 (neg s) U a unit_ext (inl (held_O s f, (false, i, refl))) in
        (rnd 53 (U + a) 1, subst (λ (z : Float). Ext z (rnd 53 (U + a) 1)) (sym (sub_opens f1 s)) sum, some (U + a) (more U a U_pos))
      where
        more : (u a : ℕ) → 0 < u → 1 ≤ u + a
        more u a h = omega arith

-- the root of it: at least `index_most` units, so that a product with the index is above 0 too
pub record Inner (i : Float) : Type 0 where
  pub fin : Fin i
  pub above : N i ≡ 0
  pub some : index_most ≤ mag i

abbrev root_most : ℕ
root_most = 2 * index_most

big_U : (root_most + 1) * (root_most + 1) ≤ U
unfolding U
big_U = lit≤ tt

root-some : (n ρ : ℕ) → 0 < n → RootErr n ρ → index_most ≤ ρ
root-some n ρ p e =
    let large = big-R e.R (le_trans (le_trans big_U (le-mul n U p)) (le_of_lt e.high)) in
    low e.R e.m ρ large e.cut.0 e.near.1
  where
    le-mul : (n u : ℕ) → 0 < n → u ≤ n * u
    le-mul n u p = let h = mul-le-mul_right u p in omega arith

    big-R : (R : ℕ) → (root_most + 1) * (root_most + 1) ≤ (R + 1) * (R + 1) → root_most ≤ R
    big-R R h = elim (below_or_from R root_most) [
      | inl l ↦ (let s : R + 1 ≤ root_most = omega arith in omega (arith, mul-le-mul s s))
      | inr k ↦ k
    ]

    low : (R m ρ : ℕ) → root_most ≤ R → 2 * R ≤ m → M * m ≤ M * (2 * ρ) + m → index_most ≤ ρ
    low R m ρ a b c = omega (arith, le_trans (mul-le-mul_left 2 a) b, half m ρ c)
      where
        half : (m ρ : ℕ) → M * m ≤ M * (2 * ρ) + m → m ≤ 4 * ρ
        half m ρ c = omega arith

-- where 1 - s is n units
pub inner_of : (s : Float) (n : ℕ) → Ext (f1 ⊖ s) n → 0 < n → n < O → Inner (cos_i s)
unfolding cos_i
inner_of s n e p l =
    let d = f1 ⊖ s in
    let r = rooted d n (sub-fits B f1 s) (fine_pos d n (fine_under d n e l) p) p l in
    let above = (parts (sqrt d) false (mag (sqrt d)) r.fin r.is).1 in
    rw r.kept (record { fin = r.fin; above = above; some = root-some n (mag (sqrt d)) p r.err })

-- where s is not large
one_minus : (s : Float) → Upto sin2_most s → Upto (2 * sin2_most) (f1 ⊖ s)
unfolding closed tame mg
one_minus s h = expression (2 * sin2_most) (f1 ∷ s ∷ []) (1 ∷ sin2_most ∷ []) (fv 0 -ᶠ fv 1) (f1_upto, (h, tt)) tt tt (lit≤ tt)

abbrev pub inner_most : ℕ
inner_most = 4 * sin2_most + 3

pub inner_upto : (s : Float) → Upto sin2_most s → Upto inner_most (cos_i s)
unfolding cos_i
inner_upto s h = root_max (2 * sin2_most) (f1 ⊖ s) (one_minus s h)

-- what the parts of a sampled direction are at most, on metal and on glass
abbrev pub reach_bits : ℕ
reach_bits = sin2_bits + 4

abbrev pub reach : ℕ
reach = 2 ^ reach_bits

inner : (s : Float) → Upto sin2_most s → T (not (is_total s)) → Inner (cos_i s)
unfolding is_total
inner s h t =
    let e = gap s h.fin t in
    inner_of s e.0 e.1 e.2 (finite_ext (f1 ⊖ s) e.0 e.1 (one_minus s h).fin.0)

-- ---- the two quotients
-- a sum of which one part is above 0
sum_pos : (x y : Float) → Fin x → Fin y → N x ≡ 0 → N y ≡ 0 → 1 ≤ mag x + mag y → T (lt f0 (x ⊕ y))
sum_pos x y f g n m p =
    let s = mag x + mag y in
    let q : 1 ≤ rnd 53 s 1 = rnd-ge 1 s 1 (lit< tt) held1 (le_trans (lit≤ tt) p) in
    ext_pos (x ⊕ y) (rnd 53 s 1) (add_ext x y (mag x) (mag y) (ext_N x f n) (ext_N y g m)) q

pub squared : (x y : Float) → Fin x → Fin y → N x ≡ 0 → N y ≡ 0 → 1 ≤ mag x + mag y → Share (contrast x y ⊗ contrast x y)
unfolding contrast
squared x y f g n m p = contrast-share x y f.1 g.1 (le-nil x f n) f.0 (le-nil y g m) g.0 (sum_pos x y f g n m p)

-- a product of the index and something from 0 on
pub record Indexed (e x : Float) : Type 0 where
  pub fin : Fin (e ⊗ x)
  pub above : N (e ⊗ x) ≡ 0
  pub some : index_most ≤ mag x → 1 ≤ mag (e ⊗ x)

abbrev pub product_size : Float → Float → ℕ
product_size e x = rnd 53 (mag e * mag x * U) (U * U)

pub product_ext : (e x : Float) → Index e → Fin x → N x ≡ 0 → Ext (e ⊗ x) (product_size e x)
product_ext e x i f n = mul_ext e x (mag e) (mag x) (fine_N e i.fin i.above) (fine_N x f n)

-- that is below the overflow
pub indexed_below : (e x : Float) → Index e → Fin x → N x ≡ 0 → product_size e x < O → Indexed e x
indexed_below e x i f n l =
    let a = mag e in
    let b = mag x in
    let p = mul-pos U_pos U_pos in
    let q = pos_of (e ⊗ x) (product_size e x) (mul-fits B e x) (product_ext e x i f n) l in
    record {
      fin = q.fin;
      above = q.zero_N;
      some = λ (h : index_most ≤ b).
          let low = mul-le-mul_right U (le_trans i.low (le_trans (mul-le-mul_right a h) (le_of_eq (mul_comm b a)))) in
          subst (λ (z : ℕ). 1 ≤ z) (sym q.is) (rnd-ge 1 (a * b * U) (U * U) p held1 (le_trans (le_of_eq (one-mul (U * U))) low));
    }

-- something as large as the cosine inside
abbrev term_bits : ℕ
term_bits = sin2_bits + 3

abbrev term_most : ℕ
term_most = 2 ^ term_bits

indexed : (e x : Float) → Index e → Upto term_most x → N x ≡ 0 → Indexed e x
indexed e x i h n =
    let o = held_power (index_bits + term_bits) (lit≤ tt) in
    let high = le_trans (mul-le-mul_right U (mul-le-mul i.high h.size)) (le_of_eq (re U)) in
    let top = rnd-le (index_most * term_most * U) (mag e * mag x * U) (U * U) (mul-pos U_pos U_pos) o.0 high in
    indexed_below e x i h.fin n (lt_of_le_of_lt top o.1)
  where
    re : (u : ℕ) → index_most * u * (term_most * u) * u ≡ index_most * term_most * u * (u * u)
    re u = omega arith

-- ---- half of a sum of two shares
pub mean : (p q : Float) → T (fits B p) → T (fits B q) → Share p → Share q → Share ((p ⊕ q) ⊘ f2)
mean p q fp fq hp hq =
    let a = share_of p fp hp.1 hp.2 in
    let b = share_of q fq hq.1 hq.2 in
    let s = rnd 53 (a.0 + b.0) 1 in
    let two = mul-pos (lit< {m = 0} {n = 2} tt) U_pos in
    let l : s ≤ 2 * U = rnd-le (2 * U) (a.0 + b.0) 1 (lit< tt) two_U (omega arith) in
    let e = add_ext p q a.0 b.0 (inl (lt_of_le_of_lt a.2 U_O, a.1)) (inl (lt_of_le_of_lt b.2 U_O, b.1)) in
    let sum = fine_under (p ⊕ q) s e (lt_of_le_of_lt l two_O) in
    let d = div_ext (p ⊕ q) f2 s (2 * U) sum (false, (refl, f2_units), refl) two in
    inside ((p ⊕ q) ⊘ f2) f1 (rnd 53 (s * U) (2 * U)) U d unit_ext U_O
    (rnd-le U (s * U) (2 * U) two U_held.0 (le_trans (mul-le-mul_right U l) (le_of_eq (mul_comm (2 * U) U))))

-- ---- the whole term
pub unpolarized-share : (e c i : Float) → Fin c → N c ≡ 0 → Inner i → Indexed e c → Indexed e i → Share (unpolarized e c i)
unfolding unpolarized mean_square
unpolarized-share e c i f n y ec ei =
    let p = contrast (e ⊗ c) i in
    let s = contrast c (e ⊗ i) in
    mean (p ⊗ p) (s ⊗ s) (mul-fits B p p) (mul-fits B s s)
    (squared (e ⊗ c) i ec.fin y.fin ec.above y.above (omega arith))
    (squared c (e ⊗ i) f ei.fin n ei.above (omega (arith, ei.some y.some)))

facing-share : (c e : Float) → Upto 64 c → N c ≡ 0 → Index e → Share (fr_facing c e)
unfolding fr_facing
facing-share c e h n i = go (is_total s) (inner s (sin2_upto c e h i))
  where
    s : Float
    s = sin2_i c e

    ec : Indexed e c
    ec = indexed e c i (widen 64 term_most c (lit≤ tt) h) n

    ei : Inner (cos_i s) → Indexed e (cos_i s)
    ei y = indexed e (cos_i s) i (widen inner_most term_most (cos_i s) (lit≤ tt) (inner_upto s (sin2_upto c e h i))) y.above

    go : (b : Bool) → (T (not b) → Inner (cos_i s)) → Share (cond b f1 (unpolarized e c (cos_i s)))
    go true f = f1-share
    go false f = unpolarized-share e c (cos_i s) h.fin n (f tt) ec (ei (f tt))

abs_parts : (k : ℕ) (c : Float) → Upto k c → Upto k (abs c) × (N (abs c) ≡ 0)
unfolding N lib.Ieee.fits abs
abs_parts k nan h = absurd h.fin.0
abs_parts k (inf s) h = absurd h.fin.0
abs_parts k (fin true zero e) h = (record { fin = (tt, h.fin.1); size = h.size }, refl)
abs_parts k (fin true (suc m) e) h = (record { fin = (tt, h.fin.1); size = h.size }, refl)
abs_parts k (fin false m e) h = (h, refl)

pub fr_real-share : (c e : Float) → Upto 64 c → Index e → Share (fr_real c e)
unfolding fr_real
fr_real-share c e h i = let a = abs_parts 64 c h in facing-share (abs c) (index_from c e) a.0 a.1 (index_from_lem c e i)

-- `fresnel` at an index in range and with no absorption
pub fresnel_real : (c e k : Float) → Index e → T (eq k f0) → fresnel c e k ≡ fr_real c e
unfolding fresnel
fresnel_real c e k i t = go (eq k f0) t
  where
    go : (b : Bool) → T b → cond b (cond (eq e f0) f0 (fr_real c e)) (fr_complex c e k) ≡ fr_real c e
    go true t = ap (λ (b : Bool). cond b f0 (fr_real c e)) (index_not-zero e i)
    go false t = elim t [ ]

pub fresnel-share : (c e k : Float) → Upto 64 c → Index e → T (eq k f0) → Share (fresnel c e k)
fresnel-share c e k h i t = subst (λ (z : Float). Share z) (sym (fresnel_real c e k i t)) (fr_real-share c e h i)
