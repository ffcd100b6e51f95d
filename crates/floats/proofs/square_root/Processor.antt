-- The processor's root is the root that specs/SquareRoot.antt defines (`by_processor`). The language defines it as the whole root
-- at 2271 binary places, rounded; here it is the whole root at 1074. Both have the 54 leading digits of the root, so both round to half of them, rounded up.
use Rattle.std.proofs.Common.{ℕ, zero, suc, ◌≡◌, refl, sym, ap, ◌∙◌, subst, Bool, true, false, ◌+◌, ◌*◌, ◌/◌, ◌^◌, T, pos, Float, ℤ, arith, mul_assoc, mul_right_comm, mul-div_cancel, pow-add}
use Rattle.std.specs.Float.{nan, inf, fin, Format, binary64}
use Rattle.std.specs.Float.Ieee as Ieee
use native.Mathlib.Nat.{mul-mul-mul_comm}
use lib.Ieee.{up, down, size, fits, round, root_below, root_twice}
use lib.Ieee.Fits.{down_pos, sqrt-fits}
use lib.Ieee.Root.{whole_part}
use Rattle.floats.specs.SquareRoot.{sticky, square_root, root_of_units}
use Rattle.floats.proofs.Rounding.Units.{U, U_is, Is, mag, is_of, unique, units_pos}
use Rattle.floats.proofs.square_root.WholeRoot.{root_by_places, root_of_value}
use Rattle.floats.proofs.square_root.LeadingDigits.{leading, root_units, below_infinity}
use Rattle.floats.proofs.square_root.RootBits.{root_of-fits, root_by_units}

abbrev B : Format
B = binary64

-- what the root is taken of, for a value that is n units: 3468 binary places below the unit
operand : ℕ → ℤ → ℕ
operand m e = m * up e * 2 ^ 4542 / down e

-- 1197 places below the unit is the root then, 1198 with the half place that says that it goes on
opened : (m : ℕ) (e : ℤ) → let w = operand (suc m) e in let R = root_below (size w) w in
    Ieee.sqrt B (fin false (suc m) e) ≡ round B false (2 * R + sticky R w) (2 ^ (1197 + 1) * U)
unfolding Ieee.sqrt root_twice sticky U operand
opened m e = refl

operand_is : (m n : ℕ) (e : ℤ) → m * up e * U ≡ n * down e → operand m e ≡ n * 2 ^ 3468
unfolding operand
operand_is m n e h =
    ap (λ (z : ℕ). z / down e)
    (ap (λ (z : ℕ). m * up e * z) (pow-add 2 1074 3468 ∙ ap (λ (z : ℕ). z * 2 ^ 3468) (sym U_is))
    ∙ sym (mul_assoc (m * up e) U (2 ^ 3468))
    ∙ ap (λ (z : ℕ). z * 2 ^ 3468) h
    ∙ mul_right_comm n (down e) (2 ^ 3468))
    ∙ mul-div_cancel (n * 2 ^ 3468) (down_pos e)

finer : (n W b : ℕ) → n * U ≡ W * (2 ^ b * 2 ^ b) → n * 2 ^ 3468 ≡ W * (2 ^ (b + 1197) * 2 ^ (b + 1197))
finer n W b h =
    ap (λ (z : ℕ). n * z) (pow-add 2 1074 2394 ∙ ap (λ (z : ℕ). z * 2 ^ 2394) (sym U_is))
    ∙ sym (mul_assoc n U (2 ^ 2394))
    ∙ ap (λ (z : ℕ). z * 2 ^ 2394) h
    ∙ mul_assoc W (2 ^ b * 2 ^ b) (2 ^ 2394)
    ∙ ap (λ (z : ℕ). W * z)
    (ap (λ (z : ℕ). 2 ^ b * 2 ^ b * z) (pow-add 2 1197 1197)
    ∙ mul-mul-mul_comm (2 ^ b) (2 ^ b) (2 ^ 1197) (2 ^ 1197)
    ∙ sym (ap (λ (z : ℕ). z * z) (pow-add 2 b 1197)))

above_zero : (m : ℕ) (e : ℤ) → T (fits B (fin false (suc m) e)) → Ieee.sqrt B (fin false (suc m) e) ≡ square_root B (fin false (suc m) e)
above_zero m e f =
    let x = fin false (suc m) e in
    let n = mag x in
    let i = is_of x tt f in
    let v = leading n i.1 (units_pos m n e i.0.1) in
    let w = operand (suc m) e in
    let R = root_below (size w) w in
    let processor =
    root_by_places 1197 v.Q v.W R v.b (v.b + 1197) w refl v.root (whole_part w)
    (operand_is (suc m) n e i.0.1 ∙ finer n v.W v.b v.scaled) v.even v.low v.high (below_infinity v) in
    unique (Ieee.sqrt B x) (root_of_units B n) false (root_units v) (sqrt-fits B x) (root_of-fits n)
    (subst (λ (z : Float). Is z false (root_units v)) (sym (opened m e)) processor)
    (root_of_value n v.Q v.W v.b i.1.1 v.scaled v.root v.even v.low v.high (below_infinity v))
    ∙ sym (root_by_units m e)

-- a zero that fits is written in the one way
zero_same : (s : Bool) (e : ℤ) → T (fits B (fin s zero e)) → fin s zero (pos 0) ≡ fin s zero e
zero_same s e f = unique (fin s zero (pos 0)) (fin s zero e) s 0 (unfold fits in tt) f (refl, omega arith) (refl, omega arith)

pub by_processor : (x : Float) → T (fits B x) → Ieee.sqrt B x ≡ square_root B x
unfolding Ieee.sqrt square_root
by_processor nan f = refl
by_processor (inf false) f = refl
by_processor (inf true) f = refl
by_processor (fin s zero e) f = zero_same s e f
by_processor (fin true (suc m) e) f = refl
by_processor (fin false (suc m) e) f = above_zero m e f
