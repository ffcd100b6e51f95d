-- A vector divided by its computed length, `normalize`.
-- Proved (`unit_of`): where the sum of the squares is from 2 ^ -80 to 2 ^ 60, the length is finite and above 0, each part of the result is finite and at most 1 + 2 ^ -47 in size, and the sum of their squares is 1 within 2 ^ -46.
-- Over ℕ, sizes in units and squares in units of units: the computed sum, its root, and the three quotients, each with its error; then the floats.
use Rattle.std.specs.Float.{Format, binary64}
use Rattle.std.proofs.Common.{◌≡◌, ℕ, zero, suc, ◌+◌, ◌-◌, ◌*◌, ◌^◌, ◌<◌, ◌≤◌, false, ◌⊎◌, ap, ◌∙◌, subst, inl, inr, le_trans, le_of_eq, lt_of_lt_of_le, lt_of_le_of_lt, lt_irrefl, mul-le-mul_right, mul_assoc, mul_comm, mul-le-mul, mul-le-mul_left, mul-pos, not-le_of_lt, le_of_mul-le-mul_right, arith, lit<, lit≤, Float}
use lib.Ieee.Fits.{add-fits}
use Rattle.floats.proofs.Rounding.{rnd, Near, rnd_whole, rnd_all, below_or_from}
use Rattle.floats.proofs.Rounding.Units.{U, O, U_pos, Is, is_of, sign, mag}
use Rattle.floats.proofs.Rounding.Error.{Fin, M, M/2, mul-rnd, Within, unscale, div_sized}
use Rattle.floats.proofs.square_root.WholeRoot.{RootErr}
use Rattle.floats.proofs.Rounding.NonNegative.{Ext, add_ext, fine_under, fine_pos, two_O, square_ext}
use Rattle.numbers.specs.declared.vec3.Vec3.{Vec3}
use Rattle.floats.specs.Float.{◌⊕◌, ◌⊗◌}
use Rattle.floats.specs.SquareRoot.{sqrt}
use Rattle.numbers.specs.Vec3.{dot, length_squared, length, div_float, normalize}
use Rattle.floats.proofs.square_root.RootOrZero.{rooted}

abbrev B : Format
B = binary64

-- ---- the computed sum of the squares of a, b, c units
abbrev pub sq : ℕ → ℕ
sq a = rnd 53 (a * a * U) (U * U)

abbrev pub sum3 : ℕ → ℕ → ℕ → ℕ
sum3 a b c = rnd 53 (rnd 53 (sq a + sq b) 1 + sq c) 1

abbrev pub norm : ℕ → ℕ → ℕ → ℕ
norm a b c = a * a + b * b + c * c

sq_err : (a : ℕ) → Within (sq a * U) (a * a) (a * a + M/2 * U)
sq_err a = unscale (sq a * U) (a * a) (a * a + M/2 * U) (mul-rnd (a * a))

pub sum_err : (n : ℕ) → Within (rnd 53 n 1 * U) (n * U) (n * U)
sum_err n = unscale (rnd 53 n 1 * U) (n * U) (n * U) (times (rnd 53 n 1) (rnd_whole 53 n (lit< tt)))
  where
    times : (r : ℕ) → Near (M * r) (M * n) n → Near (M * (r * U)) (M * (n * U)) (n * U)
    times r h = (omega (arith, mul-le-mul_right U h.0), omega (arith, mul-le-mul_right U h.1))

-- 2 ^ 51
abbrev pub k51 : ℕ
k51 = 2251799813685248

-- the squares A, B, C computed as X, Y, Z, and summed as S and W
sums : (A B C X Y Z S W v d₁ d₂ d₃ d₄ d₅ : ℕ) → Near X A d₁ → M * d₁ ≤ A + v → Near Y B d₂ → M * d₂ ≤ B + v → Near Z C d₃ → M * d₃ ≤ C + v
    → Near S (X + Y) d₄ → M * d₄ ≤ X + Y → Near W (S + Z) d₅ → M * d₅ ≤ S + Z
    → 1024 * v ≤ A + B + C → Near W (A + B + C) (d₁ + d₂ + d₃ + d₄ + d₅) × (k51 * (d₁ + d₂ + d₃ + d₄ + d₅) ≤ A + B + C)
sums A B C X Y Z S W v d₁ d₂ d₃ d₄ d₅ a a' b b' c c' d d' e e' h =
    let m = mid A B C X Y Z S v d₁ d₂ d₃ d₄ d₅ a b c d (thin d₁ (A + v) a') (thin d₂ (B + v) b') (thin d₃ (C + v) c') (thin d₄ (X + Y) d') h in
    (wide, final A B C v d₁ d₂ d₃ d₄ d₅ (X + Y) (S + Z) a' b' c' d' e' m)
  where
    wide : Near W (A + B + C) (d₁ + d₂ + d₃ + d₄ + d₅)
    wide = (omega arith, omega arith)

    thin : (d e : ℕ) → M * d ≤ e → 1024 * d ≤ e
    thin d e h = omega arith

    mid : (A B C X Y Z S v d₁ d₂ d₃ d₄ d₅ : ℕ) → Near X A d₁ → Near Y B d₂ → Near Z C d₃ → Near S (X + Y) d₄
        → 1024 * d₁ ≤ A + v → 1024 * d₂ ≤ B + v → 1024 * d₃ ≤ C + v → 1024 * d₄ ≤ X + Y → 1024 * v ≤ A + B + C
        → A + v + (B + v) + (C + v) + (X + Y) + (S + Z) ≤ 4 * (A + B + C)
    mid A B C X Y Z S v d₁ d₂ d₃ d₄ d₅ a b c d a' b' c' d' h = omega arith

    final : (A B C v d₁ d₂ d₃ d₄ d₅ p q : ℕ) → M * d₁ ≤ A + v → M * d₂ ≤ B + v → M * d₃ ≤ C + v → M * d₄ ≤ p → M * d₅ ≤ q
        → A + v + (B + v) + (C + v) + p + q ≤ 4 * (A + B + C) → k51 * (d₁ + d₂ + d₃ + d₄ + d₅) ≤ A + B + C
    final A B C v d₁ d₂ d₃ d₄ d₅ p q a b c d e h = omega arith

pub sum3_err : (a b c : ℕ) → 1024 * (M/2 * U) ≤ norm a b c → Near (k51 * (sum3 a b c * U)) (k51 * norm a b c) (norm a b c)
sum3_err a b c h =
    let x = sq_err a in
    let y = sq_err b in
    let z = sq_err c in
    let ab = rnd 53 (sq a + sq b) 1 in
    let s = sum_err (sq a + sq b) in
    let t = sum_err (ab + sq c) in
    let r = sums (a * a) (b * b) (c * c) (sq a * U) (sq b * U) (sq c * U) (ab * U) (sum3 a b c * U) (M/2 * U)
    x.0 y.0 z.0 s.0 t.0 x.1 x.2 y.1 y.2 z.1 z.2
    (dis (sq a) (sq b) (ab * U) s.0 s.1) (dis' (sq a) (sq b) s.0 s.2)
    (dis ab (sq c) (sum3 a b c * U) t.0 t.1) (dis' ab (sq c) t.0 t.2) h in
    omega arith
  where
    dis : (x y s d : ℕ) → Near s ((x + y) * U) d → Near s (x * U + y * U) d
    dis x y s d h = omega arith

    dis' : (x y d : ℕ) → M * d ≤ (x + y) * U → M * d ≤ x * U + y * U
    dis' x y d h = omega arith

-- ---- the root: with w = n * U
five : (x w : ℕ) → M * x ≤ M * (4 * w) + w → x ≤ 5 * w
five x w h = omega arith

lin : (p x w y : ℕ) → M * (4 * p) ≤ y + 3 * x → y ≤ M * (4 * w) + w → x ≤ 5 * w → k51 * p ≤ k51 * w + w
lin p x w y a b c = omega arith

lin' : (p x w y : ℕ) → y ≤ M * (4 * p) + 3 * x → M * (4 * w) ≤ y + w → x ≤ 5 * w → k51 * w ≤ k51 * p + w
lin' p x w y a b c = omega arith

-- with δ at most m / M
cross_small : (m δ : ℕ) → M * δ ≤ m → M * (m * δ) ≤ m * m
cross_small m δ g = let h = mul-le-mul_left m g in omega arith

square_small : (m δ : ℕ) → M * δ ≤ m → M * (δ * δ) ≤ m * m
square_small m δ g = let d : δ ≤ m = omega arith in let h = mul-le-mul g d in omega arith

root-sq : (R m ρ w : ℕ) → R * R ≤ w → w < (R + 1) * (R + 1) → 2 * R ≤ m → m ≤ 2 * R + 1 → Near (M * (2 * ρ)) (M * m) m → 144115188075855872 ≤ R
    → Near (k51 * (ρ * ρ)) (k51 * w) w
root-sq R m ρ w a b c d e f =
    let least = sqr R (m * m) (mul-le-mul c c) in
    let most = sqr' R (m * m) (mul-le-mul d d) in
    third (ρ * ρ) (m * m) w (first (below_or_from (2 * ρ) m)) (second R w (R * R) (m * m) a (omega arith) least most (mul-le-mul_right R f) f)
  where
    first : (2 * ρ < m) ⊎ (m ≤ 2 * ρ) → Near (M * (4 * (ρ * ρ))) (M * (m * m)) (3 * (m * m))
    first (inr h) = up (2 * ρ - m) (omega arith) (let g : M * (2 * ρ) ≤ M * m + m = e.0 in lin (2 * ρ) m g h)
      where
        lin : (p m : ℕ) → M * p ≤ M * m + m → m ≤ p → M * (p - m) ≤ m
        lin p m g h = omega arith

        up : (δ : ℕ) → 2 * ρ ≡ m + δ → M * δ ≤ m → Near (M * (4 * (ρ * ρ))) (M * (m * m)) (3 * (m * m))
        up δ q g = lin2 (ρ * ρ) (m * m) (m * δ) (δ * δ) (four ρ m δ q) (cross_small m δ g) (square_small m δ g)
          where
            four : (ρ m δ : ℕ) → 2 * ρ ≡ m + δ → 4 * (ρ * ρ) ≡ m * m + 2 * (m * δ) + δ * δ
            four ρ m δ q = let x : 4 * (ρ * ρ) ≡ 2 * ρ * (2 * ρ) = omega arith in x ∙ ap (λ (z : ℕ). z * z) q ∙ omega arith

            lin2 : (p m x y : ℕ) → 4 * p ≡ m + 2 * x + y → M * x ≤ m → M * y ≤ m → Near (M * (4 * p)) (M * m) (3 * m)
            lin2 p m x y a b c = (omega arith, omega arith)
    first (inl h) = down (m - 2 * ρ) (omega arith) (let g : M * m ≤ M * (2 * ρ) + m = e.1 in lin (2 * ρ) m g)
      where
        lin : (p m : ℕ) → M * m ≤ M * p + m → M * (m - p) ≤ m
        lin p m g = omega arith

        down : (δ : ℕ) → m ≡ 2 * ρ + δ → M * δ ≤ m → Near (M * (4 * (ρ * ρ))) (M * (m * m)) (3 * (m * m))
        down δ q g = lin2 (ρ * ρ) (m * m) (m * δ) (δ * δ) (four ρ m δ q) (cross_small m δ g) (square_small m δ g)
          where
            four : (ρ m δ : ℕ) → m ≡ 2 * ρ + δ → 4 * (ρ * ρ) + 2 * (m * δ) ≡ m * m + δ * δ
            four ρ m δ q = rw q (omega arith)

            lin2 : (p m x y : ℕ) → 4 * p + 2 * x ≡ m + y → M * x ≤ m → M * y ≤ m → Near (M * (4 * p)) (M * m) (3 * m)
            lin2 p m x y a b c = (omega arith, omega arith)

    sqr : (R x : ℕ) → 2 * R * (2 * R) ≤ x → 4 * (R * R) ≤ x
    sqr R x h = omega arith

    sqr' : (R x : ℕ) → x ≤ (2 * R + 1) * (2 * R + 1) → x ≤ 4 * (R * R) + 4 * R + 1
    sqr' R x h = omega arith

    second : (R w r x : ℕ) → r ≤ w → w ≤ r + 2 * R → 4 * r ≤ x → x ≤ 4 * r + 4 * R + 1 → 144115188075855872 * R ≤ r → 144115188075855872 ≤ R
        → Near (M * x) (M * (4 * w)) w
    second R w r x a b c d e f = (omega arith, omega arith)

    third : (p x w : ℕ) → Near (M * (4 * p)) (M * x) (3 * x) → Near (M * x) (M * (4 * w)) w → Near (k51 * p) (k51 * w) w
    third p x w a b = let c = five x w b.0 in (lin p x w (M * x) a.0 b.0 c, lin' p x w (M * x) a.1 b.1 c)

-- ---- the length: ρ units, with ρ * ρ near the norm
-- 2 ^ 49
abbrev pub k49 : ℕ
k49 = 562949953421312

both_l : (p w D y : ℕ) → k51 * p ≤ y + w → y ≤ k51 * D + D → w ≤ 2 * D → k49 * p ≤ k49 * D + D
both_l p w D y a b c = omega arith

both_r : (p w D y : ℕ) → y ≤ k51 * p + w → k51 * D ≤ y + D → w ≤ 2 * D → k49 * D ≤ k49 * p + D
both_r p w D y a b c = omega arith

pub some : (m ρ : ℕ) → 0 < m → M * m ≤ M * (2 * ρ) + m → 0 < ρ
some m ρ h g = omega arith

more : (R m : ℕ) → 144115188075855872 ≤ R → 2 * R ≤ m → 0 < m
more R m a b = omega arith

pub record Length (a b c ρ : ℕ) : Type 0 where
  pub near : Near (k49 * (ρ * ρ)) (k49 * norm a b c) (norm a b c)
  pub above : 0 < ρ

-- the sum of the squares is at least 2 ^ -80 and at most 2 ^ 60
abbrev pub Room : ℕ → ℕ → ℕ → Type 0
Room a b c = (U * U ≤ 2 ^ 80 * norm a b c) × (norm a b c ≤ 1152921504606846976 * (U * U))

tiny : 1024 * (M/2 * U) * 2 ^ 80 ≤ U * U
unfolding U
tiny = lit≤ tt

big_root : 2 ^ 81 * (144115188075855873 * 144115188075855873) ≤ U * U
unfolding U
big_root = lit≤ tt

pub room_O : 2305843009213693952 * U < O
unfolding U O
room_O = lit< tt

pub twice51 : (w D : ℕ) → k51 * w ≤ k51 * D + D → w ≤ 2 * D
twice51 w D h = omega arith

halves : (D w : ℕ) → k51 * D ≤ k51 * w + D → D ≤ 2 * w
halves D w h = omega arith

room-norm : (a b c : ℕ) → Room a b c → 1024 * (M/2 * U) ≤ norm a b c
room-norm a b c r =
    let D = norm a b c in
    le_of_mul-le-mul_right {k = 2 ^ 80} (le_trans tiny (le_trans r.0 (le_of_eq (mul_comm (2 ^ 80) D)))) (lit< tt)

length_of : (a b c ρ : ℕ) → Room a b c → RootErr (sum3 a b c) ρ → Length a b c ρ
length_of a b c ρ r e =
    let D = norm a b c in
    let n = sum3 a b c in
    let s = sum3_err a b c (room-norm a b c r) in
    let half : D ≤ 2 * (n * U) = halves D (n * U) s.1 in
    let up_to_lem = le_trans r.0 (le_trans (mul-le-mul_left (2 ^ 80) half) (le_of_eq (shift (n * U)))) in
    let swap = mul_comm (144115188075855873 * 144115188075855873) (2 ^ 81) in
    let big-square = le_of_mul-le-mul_right {k = 2 ^ 81} (le_trans (le_of_eq swap) (le_trans big_root up_to_lem)) (lit< tt) in
    let big_r : 144115188075855872 ≤ e.R = root-big e.R (n * U) e.high big-square in
    let q = root-sq e.R e.m ρ (n * U) e.low e.high e.cut.0 e.cut.1 e.near big_r in
    let w = twice51 (n * U) D s.0 in
    record {
      near = (both_l (ρ * ρ) (n * U) D (k51 * (n * U)) q.0 s.0 w, both_r (ρ * ρ) (n * U) D (k51 * (n * U)) q.1 s.1 w);
      above = pos-ρ e.R e.m ρ big_r e.cut.0 e.near;
    }
  where
    shift : (w : ℕ) → 2 ^ 80 * (2 * w) ≡ w * 2 ^ 81
    shift w = omega arith

    root-big : (R w : ℕ) → w < (R + 1) * (R + 1) → 144115188075855873 * 144115188075855873 ≤ w → 144115188075855872 ≤ R
    root-big R w h g = elim (below_or_from R 144115188075855872) [
      | inl l ↦ (let s : R + 1 ≤ 144115188075855873 = omega arith in absurd (not-le_of_lt (lt_of_le_of_lt g h) (mul-le-mul s s)))
      | inr k ↦ k
    ]

    pos-ρ : (R m ρ : ℕ) → 144115188075855872 ≤ R → 2 * R ≤ m → Near (M * (2 * ρ)) (M * m) m → 0 < ρ
    pos-ρ R m ρ a b c = some m ρ (more R m a b) c.1

-- ---- the quotients
-- 2 ^ 47 and 2 ^ 46
abbrev pub k47 : ℕ
k47 = 140737488355328

pub twice47 : (r u : ℕ) → k47 * r ≤ k47 * u + u → r ≤ 2 * u
twice47 r u h = omega arith

abbrev pub k46 : ℕ
k46 = 70368744177664

twice : (D p : ℕ) → k49 * D ≤ k49 * p + D → D ≤ 2 * p
twice D p h = omega arith

part_le : (a ρ D : ℕ) → a * a ≤ D → D ≤ 2 * (ρ * ρ) → a ≤ 2 * ρ
part_le a ρ D h g = elim (below_or_from (2 * ρ) a) [ inl l ↦ omega (arith, mul-le-mul l l) | inr k ↦ k ]

square-near : (x y δ e : ℕ) → Near x y δ → M * δ ≤ 3 * e → y ≤ 2 * e → Near (M * (x * x)) (M * (y * y)) (15 * (e * e))
square-near x y δ e h g l = elim (below_or_from x y) [
  | inl k ↦ (let n = apart y x (y - x) (omega arith) (bound (y - x) (y + x) (omega arith) (omega arith)) in (n.1, n.0))
  | inr k ↦ apart x y (x - y) (omega arith) (bound (x - y) (x + y) (omega arith) (omega arith))
]
  where
    small : (δ e : ℕ) → M * δ ≤ 3 * e → δ ≤ e
    small δ e h = omega arith

    most : x + y ≤ 5 * e
    most = let s = small δ e g in omega arith

    bound : (d s : ℕ) → d ≤ δ → s ≡ x + y → M * (d * s) ≤ 15 * (e * e)
    bound d s k q = omega (arith, mul-le-mul (le_trans (mul-le-mul_left M k) g) (le_trans (le_of_eq q) most))

    apart : (x y d : ℕ) → x ≡ y + d → M * (d * (x + y)) ≤ 15 * (e * e) → Near (M * (x * x)) (M * (y * y)) (15 * (e * e))
    apart x y d q b = near (x * x) (y * y) (d * (x + y)) (15 * (e * e)) (rw q (omega arith)) b
      where
        near : (a b c f : ℕ) → a ≡ b + c → M * c ≤ f → Near (M * a) (M * b) f
        near a b c f p q = (omega arith, omega arith)

M_U : M/2 ≤ U
unfolding U
M_U = lit≤ tt

quot_sq : (a ρ : ℕ) → 0 < ρ → a ≤ 2 * ρ
    → let q = rnd 53 (a * U) ρ in Near (M * (q * ρ * (q * ρ))) (M * (a * U * (a * U))) (15 * (ρ * U * (ρ * U)))
quot_sq a ρ p h =
    let q = rnd 53 (a * U) ρ in
    let w = unscale (q * ρ) (a * U) (a * U + M/2 * ρ) (rnd_all 53 (a * U) ρ (lit< tt) p) in
    let half = le_trans (mul-le-mul_right ρ M_U) (le_of_eq (mul_comm U ρ)) in
    square-near (q * ρ) (a * U) w.0 (ρ * U) w.1 (le_trans w.2 (omega (arith, two h))) (two h)
  where
    two : a ≤ 2 * ρ → a * U ≤ 2 * (ρ * U)
    two h = le_trans (mul-le-mul_right U h) (le_of_eq (mul_assoc 2 ρ U))

near_cancel : (t x y : ℕ) → 0 < t → Near (k46 * (x * t)) (k46 * (y * t)) (y * t) → Near (k46 * x) (k46 * y) y
near_cancel t x y p h =
    let g = h.0 in
    let g' = h.1 in
    (le_of_mul-le-mul_right {k = t} (omega arith) p, le_of_mul-le-mul_right {k = t} (omega arith) p)

quotients : (a b c ρ : ℕ) → Length a b c ρ
    → let x = rnd 53 (a * U) ρ in let y = rnd 53 (b * U) ρ in let z = rnd 53 (c * U) ρ in Near (k46 * norm x y z) (k46 * (U * U)) (U * U)
quotients a b c ρ l =
    let D = norm a b c in
    let p = ρ * ρ in
    let d2 = twice D p l.near.1 in
    let x = rnd 53 (a * U) ρ in
    let y = rnd 53 (b * U) ρ in
    let z = rnd 53 (c * U) ρ in
    let qa = quot_sq a ρ l.above (part_le a ρ D (omega arith) d2) in
    let qb = quot_sq b ρ l.above (part_le b ρ D (omega arith) d2) in
    let qc = quot_sq c ρ l.above (part_le c ρ D (omega arith) d2) in
    let E = ρ * U * (ρ * U) in
    let S = norm x y z * p in
    let F = D * (U * U) in
    let s1 : Near (M * S) (M * F) (45 * E) =
    add3 (x * ρ * (x * ρ)) (y * ρ * (y * ρ)) (z * ρ * (z * ρ)) (a * U * (a * U)) (b * U * (b * U)) (c * U * (c * U)) E S F (tie x y z ρ) (tie a b c U) qa qb qc in
    let s2 : Near (k49 * F) (k49 * E) (2 * E) = scaled D p (U * U) E (omega arith) l.near d2 in
    near_cancel p (norm x y z) (U * U) (mul-pos l.above l.above)
    (subst (λ (e : ℕ). Near (k46 * (norm x y z * p)) (k46 * e) e) (omega arith) (comb S F E s1 s2))
  where
    tie : (x y z r : ℕ) → (x * x + y * y + z * z) * (r * r) ≡ x * r * (x * r) + y * r * (y * r) + z * r * (z * r)
    tie x y z r = omega arith

    add3 : (x y z a b c e s f : ℕ) → s ≡ x + y + z → f ≡ a + b + c
        → Near (M * x) (M * a) (15 * e) → Near (M * y) (M * b) (15 * e) → Near (M * z) (M * c) (15 * e) → Near (M * s) (M * f) (45 * e)
    add3 x y z a b c e s f p q h k l = (omega arith, omega arith)

    scaled : (D p v e : ℕ) → e ≡ p * v → Near (k49 * p) (k49 * D) D → D ≤ 2 * p → Near (k49 * (D * v)) (k49 * e) (2 * e)
    scaled D p v e q h d = rw q (two (p * v) (D * v) (D * v) (one p D D v h.0) (one D p D v h.1) (let g = mul-le-mul_right v d in flat g))
      where
        one : (x y z v : ℕ) → k49 * x ≤ k49 * y + z → k49 * (x * v) ≤ k49 * (y * v) + z * v
        one x y z v h = let g = mul-le-mul_right v h in omega arith

        two : (P Q' R' : ℕ) → k49 * P ≤ k49 * Q' + R' → k49 * Q' ≤ k49 * P + R' → R' ≤ 2 * P → Near (k49 * Q') (k49 * P) (2 * P)
        two P Q' R' a b c = (omega arith, omega arith)

        flat : D * v ≤ 2 * p * v → D * v ≤ 2 * (p * v)
        flat g = omega arith

    comb : (s f e : ℕ) → Near (M * s) (M * f) (45 * e) → Near (k49 * f) (k49 * e) (2 * e) → Near (k46 * s) (k46 * e) e
    comb s f e h g = (lin s f e (k46 * f) h.0 g.0, lin' s f e (k46 * f) h.1 g.1)
      where
        lin : (s f e y : ℕ) → M * s ≤ M * f + 45 * e → k49 * f ≤ k49 * e + 2 * e → k46 * s ≤ k46 * e + e
        lin s f e y a b = omega arith

        lin' : (s f e y : ℕ) → M * f ≤ M * s + 45 * e → k49 * e ≤ k49 * f + 2 * e → k46 * e ≤ k46 * s + e
        lin' s f e y a b = omega arith

size-le : (q t : ℕ) → q * q ≤ t → k46 * t ≤ k46 * (U * U) + U * U → k47 * q ≤ k47 * U + U
size-le q t h g = elim (below_or_from (k47 * U + U) (k47 * q)) [
  | inl l ↦ absurd (no_way q t U (mul-le-mul l l) h g)
  | inr k ↦ k
]
  where
    no_way : (q t u : ℕ) → suc (k47 * u + u) * suc (k47 * u + u) ≤ k47 * q * (k47 * q) → q * q ≤ t → k46 * t ≤ k46 * (u * u) + u * u → ⊥
    no_way q t u a b c = fin (q * q) t (u * u) u (one q u a) b c
      where
        one : (q u : ℕ) → suc (k47 * u + u) * suc (k47 * u + u) ≤ k47 * q * (k47 * q) → (k47 * k47 + 2 * k47 + 1) * (u * u) < k47 * k47 * (q * q)
        one q u a = omega arith

        fin : (q t v u : ℕ) → (k47 * k47 + 2 * k47 + 1) * v < k47 * k47 * q → q ≤ t → k46 * t ≤ k46 * v + v → ⊥
        fin q t v u a b c = last (k46 * q) v (le_trans (mul-le-mul_left k46 b) c) (lt_of_lt_of_le a (le_of_eq (omega arith)))
          where
            last : (x v : ℕ) → x ≤ k46 * v + v → (k47 * k47 + 2 * k47 + 1) * v < 4 * k46 * x → ⊥
            last x v a b = lt_irrefl ((k47 * k47 + 2 * k47 + 1) * v) (lt_of_lt_of_le b (le_trans (mul-le-mul_left (4 * k46) a) (omega arith)))

-- ---- the floats
pub sq_ext : (x : Float) → Fin x → Ext (x ⊗ x) (sq (mag x))
sq_ext x f = square_ext x (sign x) (mag x) (is_of x f.0 f.1).0

pub dot_ext : (v : Vec3) → Fin v.x → Fin v.y → Fin v.z → Ext (dot v v) (sum3 (mag v.x) (mag v.y) (mag v.z))
unfolding dot
dot_ext v fx fy fz =
    let x² = v.x ⊗ v.x in
    let y² = v.y ⊗ v.y in
    let z² = v.z ⊗ v.z in
    let a = sq (mag v.x) in
    let b = sq (mag v.y) in
    let c = sq (mag v.z) in
    let xy = add_ext x² y² a b (sq_ext v.x fx) (sq_ext v.y fy) in
    add_ext (x² ⊕ y²) z² (rnd 53 (a + b) 1) c xy (sq_ext v.z fz)

-- ---- the law
-- v divided by its length
pub record Unit3 (v : Vec3) : Type 0 where
  pub len_fin : Fin (length v)
  pub len_pos : 0 < mag (length v)
  pub fin_x : Fin (normalize v).x
  pub fin_y : Fin (normalize v).y
  pub fin_z : Fin (normalize v).z
  pub size_x : k47 * mag (normalize v).x ≤ k47 * U + U
  pub size_y : k47 * mag (normalize v).y ≤ k47 * U + U
  pub size_z : k47 * mag (normalize v).z ≤ k47 * U + U
  pub one : Near (k46 * norm (mag (normalize v).x) (mag (normalize v).y) (mag (normalize v).z)) (k46 * (U * U)) (U * U)

unit_with : (v : Vec3) → Fin v.x → Fin v.y → Fin v.z → Fin (length v)
    → Length (mag v.x) (mag v.y) (mag v.z) (mag (length v)) → Unit3 v
unfolding normalize div_float
unit_with v fx fy fz fL l =
    let L = length v in
    let x = rnd 53 (mag v.x * U) (mag L) in
    let y = rnd 53 (mag v.y * U) (mag L) in
    let z = rnd 53 (mag v.z * U) (mag L) in
    let t = norm x y z in
    let u : Near (k46 * t) (k46 * (U * U)) (U * U) = quotients (mag v.x) (mag v.y) (mag v.z) (mag L) l in
    let hx = size-le x t (omega arith) u.0 in
    let hy = size-le y t (omega arith) u.0 in
    let hz = size-le z t (omega arith) u.0 in
    let dx = div_sized v.x L fx fL l.above (lt_of_le_of_lt (twice47 x U hx) two_O) in
    let dy = div_sized v.y L fy fL l.above (lt_of_le_of_lt (twice47 y U hy) two_O) in
    let dz = div_sized v.z L fz fL l.above (lt_of_le_of_lt (twice47 z U hz) two_O) in
    record {
      len_fin = fL;
      len_pos = l.above;
      fin_x = dx.0;
      fin_y = dy.0;
      fin_z = dz.0;
      size_x = rw dx.1 hx;
      size_y = rw dy.1 hy;
      size_z = rw dz.1 hz;
      one = rw (dx.1, dy.1, dz.1) u;
    }

pos_D : (D : ℕ) → U * U ≤ 2 ^ 80 * D → 0 < D
pos_D D h = omega (arith, lt_of_lt_of_le (mul-pos U_pos U_pos) h)

pos_of : (n u D : ℕ) → D ≤ 2 * (n * u) → 0 < D → 0 < n
pos_of zero u D h p = omega arith
pos_of (suc n) u D h p = omega arith

sum_room : (w D u : ℕ) → k51 * w ≤ k51 * D + D → D ≤ 1152921504606846976 * (u * u) → w ≤ 2305843009213693952 * u * u
sum_room w D u a b = omega (arith, twice51 w D a)

pub unit_of : (v : Vec3) → Fin v.x → Fin v.y → Fin v.z → Room (mag v.x) (mag v.y) (mag v.z) → Unit3 v
unfolding dot length length_squared
unit_of v fx fy fz r =
    let a = mag v.x in
    let b = mag v.y in
    let c = mag v.z in
    let D = norm a b c in
    let n = sum3 a b c in
    let s = sum3_err a b c (room-norm a b c r) in
    let n0 : 0 < n = pos_of n U D (halves D (n * U) s.1) (pos_D D r.0) in
    let nO : n < O = lt_of_le_of_lt (le_of_mul-le-mul_right {k = U} (sum_room (n * U) D U s.0 r.1) U_pos) room_O in
    let y = dot v v in
    let i : Is y false n = fine_pos y n (fine_under y n (dot_ext v fx fy fz) nO) n0 in
    let q = rooted y n (add-fits B (v.x ⊗ v.x ⊕ v.y ⊗ v.y) (v.z ⊗ v.z)) i n0 nO in
    let is : length v ≡ sqrt y = ap (λ (z : Float). sqrt z) q.kept in
    unit_with v fx fy fz (rw is q.fin) (rw is (length_of a b c (mag (sqrt y)) r q.err))
