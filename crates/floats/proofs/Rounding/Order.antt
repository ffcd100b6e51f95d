-- `<` on the finite values of the format, by value: two are never below each other (`lt_asym`), and where y is below x and not below z, z is below x (`lt_cotrans`).
-- By the two comparisons' tests on whole numbers: of two finite values either the first is below the second, or the second is at most the first.
use Rattle.std.proofs.Common.{Bool, true, false, ◌||◌, inl, inr, ℕ, ◌+◌, ◌*◌, arith, T, ltb→lt, lt→ltb, Float}
use lib.Ieee.{fin, binary64, fits, lt, le, eq, below, up, down}
use Rattle.floats.specs.Float.{is_finite}
use Rattle.floats.proofs.Rounding.{below_or_from}
use Rattle.floats.proofs.Rounding.Units.{Below, test→below, below→test}
use Rattle.floats.proofs.Rounding.Monotone.{le_trans-fits}

-- a finite value of the format
pub record Finite (x : Float) : Type 0 where
  pub fits_x : T (fits binary64 x)
  pub finite_x : T (is_finite x)

below_not : (s t : Bool) (a b : ℕ) → T (below s a t b) → Below t b s a → ⊥
below_not false false a b p q = let h = ltb→lt a b p in omega arith
below_not true false a b p q = let h = ltb→lt 0 (a + b) p in omega arith
below_not true true a b p q = let h = ltb→lt b a p in omega arith
below_not false true a b p q = elim p [ ]

not_below : (s t : Bool) (a b : ℕ) → (T (below s a t b) → ⊥) → Below t b s a
not_below false false a b n = elim (below_or_from a b) [ inl h ↦ absurd (n (lt→ltb a b h)) | inr h ↦ omega arith ]
not_below false true a b n = omega arith
not_below true false a b n =
    elim (below_or_from 0 (a + b)) [ inl h ↦ absurd (n (lt→ltb 0 (a + b) h)) | inr h ↦ omega arith ]
not_below true true a b n = elim (below_or_from b a) [ inl h ↦ absurd (n (lt→ltb b a h)) | inr h ↦ omega arith ]

lt_not_le : (x y : Float) → T (is_finite x) → T (is_finite y) → T (lt x y) → T (le y x) → ⊥
unfolding lt le is_finite
lt_not_le (fin s m e) (fin t n d) f g p q =
    below_not s t (m * up e * down d) (n * up d * down e) p
    (test→below t s (n * up d * down e) (m * up e * down d) q)
lt_not_le lib.Ieee.nan y f g p q = elim f [ ]
lt_not_le (lib.Ieee.inf _) y f g p q = elim f [ ]
lt_not_le (fin s m e) lib.Ieee.nan f g p q = elim g [ ]
lt_not_le (fin s m e) (lib.Ieee.inf _) f g p q = elim g [ ]

not_lt_le : (x y : Float) → T (is_finite x) → T (is_finite y) → (T (lt x y) → ⊥) → T (le y x)
unfolding lt le is_finite
not_lt_le (fin s m e) (fin t n d) f g p =
    below→test t s (n * up d * down e) (m * up e * down d) (not_below s t (m * up e * down d) (n * up d * down e) p)
not_lt_le lib.Ieee.nan y f g p = elim f [ ]
not_lt_le (lib.Ieee.inf _) y f g p = elim f [ ]
not_lt_le (fin s m e) lib.Ieee.nan f g p = elim g [ ]
not_lt_le (fin s m e) (lib.Ieee.inf _) f g p = elim g [ ]

not_le_lt : (x y : Float) → T (is_finite x) → T (is_finite y) → (T (le y x) → ⊥) → T (lt x y)
not_le_lt x y f g n = go (lt x y) (not_lt_le x y f g)
  where
    go : (b : Bool) → ((T b → ⊥) → T (le y x)) → T b
    go true h = tt
    go false h = n (h (λ t. t))

le_of_lt : (x y : Float) → T (lt x y) → T (le x y)
unfolding le
le_of_lt x y t = go (lt x y) t
  where
    go : (b : Bool) → T b → T (b || eq x y)
    go true t = tt
    go false t = elim t [ ]

pub lt_asym : (x y : Float) → Finite x → Finite y → T (lt x y) → T (lt y x) → ⊥
lt_asym x y f g p q = lt_not_le x y f.finite_x g.finite_x p (le_of_lt y x q)

pub lt_cotrans : (x y z : Float) → Finite x → Finite y → Finite z → T (lt y x) → (T (lt y z) → ⊥) → T (lt z x)
lt_cotrans x y z f g h p n =
    not_le_lt z x h.finite_x f.finite_x
    (λ q. lt_not_le y x g.finite_x f.finite_x p
    (le_trans-fits x z y f.fits_x h.fits_x g.fits_x q (not_lt_le y z g.finite_x h.finite_x n)))
