-- The value of digits, read one after the other: what one digit more makes of it, and that so many fit; by the powers of the base.
use Rattle.std.proofs.Common.{◌≡◌, ℕ, ◌+◌, ◌*◌, ◌%◌, ◌^◌, ◌<◌, ◌≤◌, Bool, true, ◌-◌, cond, nat_lt, Some, None, List, length, get_or, drop, arith, refl, ◌∙◌, bit_or, add-one}
use Rattle.std.proofs.lemmas.Bool.Decides.{nat_tests}
use Rattle.std.proofs.lemmas.Grind.{or_after_shift}
use Rattle.std.proofs.lemmas.List.{at_drop_more}
use Rattle.std.proofs.Math.Nat.{pow-suc, pow-le-pow_right}
use Rattle.std.specs.Char.{digit_value, is_ascii_digit}
use Rattle.text.specs.Digits.{digit, value_behind}

-- one digit more stands behind those that were read
pub one_more : (base n d i : ℕ) (t : List ℕ) → i < length t → Some d ≡ digit base (get_or t i 0)
    → value_behind base n (drop i t) ≡ value_behind base (n * base + d) (drop (i + 1) t)
one_more base n d i t within is = at_drop_more (value_behind base n) t i 0 within ∙ rw (← is)

-- so many digits, and one more, are below that power of the base
pub fits : (base n d i : ℕ) → n < base ^ i → d < base → n * base + d < base ^ (i + 1)
fits base n d i small one = rw (add-one, pow-suc base i) (grind arith)

-- a digit is below its base
pub below_base : (base b d : ℕ) → Some d ≡ digit base b → d < base
below_base base b d is = elim_digit (nat_lt (digit_value b) base) (digit_value b) refl is
  where
    elim_digit : (test : Bool) (v : ℕ) → nat_lt v base ≡ test → Some d ≡ cond test (Some v) None → d < base
    elim_digit test v same some = grind (arith, nat_tests)

-- sixteen hexadecimal digits fit 64 bits, and what is put behind others takes their low bits
pub shifted : (n d i : ℕ) → n < 16 ^ i → i < 16 → d < 16 → bit_or (n * 16 % 18446744073709551616) d ≡ n * 16 + d
shifted n d i small within one =
    let most : 16 ^ i ≤ 16 ^ 15 = pow-le-pow_right {n = 16} (omega arith) {i = i} {j = 15} (omega arith) in
    or_after_shift n 16 18446744073709551616 d refl one (omega arith)

-- the value of a decimal digit
pub decimal_digit : (b : ℕ) → is_ascii_digit b ≡ true → Some (b - 48) ≡ digit 10 b
decimal_digit b is = grind (arith, nat_tests)
