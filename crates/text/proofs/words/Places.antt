-- What the place of the first byte that passes a test says of the text from there on, by cases of whether there is one.
use Rattle.std.proofs.Common.{◌≡◌, ℕ, ◌-◌, ◌≤◌, cond, ltb, Option, Some, None, List, [], length, get_or, take, drop, arith}
use Rattle.std.proofs.lemmas.Grind.{common_steps}
use Rattle.std.proofs.lemmas.Bool.Decides.{nat_tests}
use Rattle.std.proofs.lemmas.List.{get_or-drop}
use Rattle.std.specs.Prelude.{unwrap_or}
use Rattle.text.specs.Words.{unless_comment}

-- the place that is found, or the end
pub or_length : (n len : ℕ) (found : Option ℕ) → n ≤ len → found ≡ cond (ltb n len) (Some n) None → unwrap_or found len ≡ n
or_length n len found within is = rw is (grind (arith, nat_tests))

-- a word begins at the place that is found, unless `#` stands there
pub at_word : (n at : ℕ) (t : List ℕ) → Some at ≡ cond (ltb n (length t)) (Some n) None → (get_or t at 0 ≡ 35 → ⊥)
    → take (length t - at) (drop at t) ≡ unless_comment (drop n t)
at_word n at t found word = grind (arith, nat_tests, common_steps, get_or-drop)

pub at_comment : (n at : ℕ) (t : List ℕ) → Some at ≡ cond (ltb n (length t)) (Some n) None → get_or t at 0 ≡ 35 → [] ≡ unless_comment (drop n t)
at_comment n at t found word = grind (arith, nat_tests, common_steps, get_or-drop)

pub at_none : (n : ℕ) (t : List ℕ) → None ≡ cond (ltb n (length t)) (Some n) None → n ≤ length t → [] ≡ unless_comment (drop n t)
at_none n t found within = grind (arith, nat_tests, common_steps, get_or-drop)
