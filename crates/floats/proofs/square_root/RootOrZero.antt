-- The root of max(x, 0) without the maximum: of a value above 0 it is the value's root (`above`, by units `rooted`), of a zero the zero itself (`at_zero`), and else 0 (`below`). By the cases of a float.
use Rattle.std.proofs.Common.{◌≡◌, refl, sym, ap, ◌∙◌, subst, ℕ, zero, suc, ◌+◌, ◌*◌, ◌<◌, mul-pos, zero-lt-suc, arith, Bool, true, false, cond, true≢false, ℤ, T, ltb, eqb, lt→ltb, eqb→eq, Float}
use lib.Dec.{eqb_refl}
use lib.Arith.{le→nltb}
use lib.Ieee.{nan, inf, fin, Format, binary64, lt, eq, is_nan, up, down, fits}
use lib.Ieee.Bits.{is_true, is_false}
use lib.Ieee.Fits.{and_l, up_pos}
use Rattle.floats.specs.Float.{f0, max}
use Rattle.floats.specs.SquareRoot.{sqrt, square_root, root_of_units}
use Rattle.floats.proofs.Rounding.Units.{Is, mag, is_of, is_same, zero_units, O}
use Rattle.floats.proofs.square_root.RootBits.{root_of-fits, root_by_units}
use Rattle.floats.proofs.Rounding.Error.{Fin, sized}
use Rattle.floats.proofs.square_root.WholeRoot.{RootErr, root_of_err}

abbrev B : Format
B = binary64

-- nothing is below 0, however 0 is written
not_below : (n d : ℕ) → ltb n (0 * 1 * d) ≡ false
not_below n d = is_false (ltb n (0 * 1 * d)) (le→nltb n (0 * 1 * d) (omega arith))

nil : (a b : ℕ) → a ≡ b → eqb a b ≡ true
nil a b h = is_true (eqb a b) (subst (λ (z : ℕ). T (eqb a z)) h (eqb_refl a))

-- `max` with 0 leaves a value that is not negative
pub max_pos : (m : ℕ) (e : ℤ) → max (fin false m e) f0 ≡ fin false m e
unfolding max lt is_nan
max_pos m e = ap (λ (b : Bool). cond b f0 (fin false m e)) (not_below (m * up e * 1) (down e))

pub above : (x : Float) → T (lt f0 x) → max x f0 ≡ x
unfolding max lt is_nan
above (inf false) t = refl
above (fin false m e) t = max_pos m e
above nan t = elim t [ ]
above (inf true) t = elim t [ ]
above (fin true m e) t = elim t [ ]

-- a zero is equal to 0, whatever its sign
zero_equal : (s : Bool) (e : ℤ) → T (eq (fin s zero e) f0)
unfolding eq
zero_equal false e = rw (nil (0 * up e * 1) (0 * 1 * down e) (omega arith)) tt
zero_equal true e = rw (nil (0 * up e * 1) (0 * 1 * down e) (omega arith), nil (0 * up e * 1) 0 (omega arith)) tt

pub at_zero : (x : Float) → T (eq x f0) → x ≡ sqrt (max x f0)
unfolding max lt eq is_nan square_root
at_zero (fin s (suc m) e) t = absurd (omega (arith, mul-pos (zero-lt-suc m) (up_pos e), eqb→eq (suc m * up e * 1) (0 * 1 * down e) (and_l (eqb (suc m * up e * 1) (0 * 1 * down e)) _ t)))
at_zero (fin false zero e) t = rw (not_below (0 * up e * 1) (down e))
at_zero (fin true zero e) t = rw (is_false (ltb 0 (0 * up e * 1 + 0 * 1 * down e)) (le→nltb 0 (0 * up e * 1 + 0 * 1 * down e) (omega arith)))
at_zero nan t = elim t [ ]
at_zero (inf _) t = elim t [ ]

pub below : (x : Float) → (T (lt f0 x) → ⊥) → (T (eq x f0) → ⊥) → f0 ≡ sqrt (max x f0)
unfolding max lt eq is_nan square_root
below nan a b = refl
below (inf true) a b = refl
below (inf false) a b = absurd (a tt)
below (fin s zero e) a b = absurd (b (zero_equal s e))
below (fin false (suc m) e) a b = absurd (a (lt→ltb (0 * 1 * down e) (suc m * up e * 1) (over (suc m * up e) (down e) (mul-pos (zero-lt-suc m) (up_pos e)))))
  where
    over : (a d : ℕ) → 0 < a → 0 * 1 * d < a * 1
    over a d h = omega arith
below (fin true (suc m) e) a b = rw (is_true (ltb 0 (suc m * up e * 1 + 0 * 1 * down e)) (lt→ltb 0 (suc m * up e * 1 + 0 * 1 * down e) (over (suc m * up e) (down e) (mul-pos (zero-lt-suc m) (up_pos e)))))
  where
    over : (a d : ℕ) → 0 < a → 0 < a * 1 + 0 * 1 * d
    over a d h = omega arith

-- ---- the root of a value of n units, n above 0
root_val : (y : Float) (n : ℕ) → T (fits B y) → Is y false n → 0 < n → (sqrt y ≡ root_of_units B n) × (max y f0 ≡ y)
root_val (fin true m e) n f i p = absurd (true≢false i.0)
root_val (fin false zero e) n f i p = absurd (zero_units n e p i.1)
root_val (fin false (suc m) e) n f i p =
    let y = fin false (suc m) e in
    let same = (is_same y false false (mag y) n (is_of y tt f).0 i).1 in
    (root_by_units m e ∙ ap (λ (z : ℕ). root_of_units B z) same, max_pos (suc m) e)
root_val nan n f i p = elim i [ ]
root_val (inf _) n f i p = elim i [ ]

pub record Rooted (y : Float) (n : ℕ) : Type 0 where
  pub kept : max y f0 ≡ y
  pub fin : Fin (sqrt y)
  pub is : Is (sqrt y) false (mag (sqrt y))
  pub err : RootErr n (mag (sqrt y))

pub rooted : (y : Float) (n : ℕ) → T (fits B y) → Is y false n → 0 < n → n < O → Rooted y n
rooted y n f i p o =
    let q = root_val y n f i p in
    let r = root_of_err n p o in
    let is = subst (λ (z : Float). Is z false r.0) (sym q.0) r.1 in
    let s = sized (sqrt y) false r.0 (subst (λ (z : Float). T (fits B z)) (sym q.0) (root_of-fits n)) is in
    record { kept = q.1; fin = s.0; is = rw s.1 is; err = rw s.1 r.2 }
