-- A text of fewer than sixteen bytes begins with no number, since `hex16` asks for as many.
use Rattle.std.proofs.Common.{◌≡◌, ℕ, ◌<◌, Bool, true, false, Option, None, List, length, take, drop, arith, refl, cond, eqb}
use Rattle.std.proofs.lemmas.Bool.Decides.{nat_tests}
use Rattle.std.proofs.lemmas.List.{length-take}
use Rattle.text.specs.Digits.{hex16, value_behind}
use Rattle.text.specs.Line.{number_bits, is_word_end}

fewer : (n : ℕ) (v : Option ℕ) → n < 16 → cond (eqb n 16) v None ≡ None
fewer n v few = grind (arith, nat_tests)

few_digits : (t : List ℕ) → length t < 16 → hex16 t ≡ None
unfolding hex16
few_digits t few = fewer (length t) (value_behind 16 0 t) few

either_none : (b : Bool) (v : Option ℕ) → v ≡ None → cond b v None ≡ None
either_none true v is = is
either_none false v is = refl

-- a text of fewer bytes than a number's begins with none
pub short : (t : List ℕ) → length t < 16 → number_bits t ≡ None
unfolding number_bits
short t few = either_none (is_word_end (drop 16 t)) (hex16 (take 16 t)) (few_digits (take 16 t) (omega (arith, length-take 16 t)))
