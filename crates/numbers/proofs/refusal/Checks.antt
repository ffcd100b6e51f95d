-- What an accepted chain of checks tells: each test in it passed (`test_passed`, `first_passed`, `next_passed`). By cases on the first check.
use Rattle.std.proofs.Common.{◌≡◌, ℕ, Bool, true, false, T, refl, arith}
use Rattle.numbers.specs.Refusal.{Verdict, accepted, rejected, refuse, ◌then◌}

never : (n : ℕ) → rejected n ≡ accepted → ⊥
never n e = let z : ◌≡◌ {A = ℕ} 0 1 = cc in omega arith

pub test_passed : (n : ℕ) (b : Bool) → refuse n b ≡ accepted → T b
test_passed n true e = tt
test_passed n false e = never n e

pub first_passed : (c d : Verdict) → (c then d) ≡ accepted → c ≡ accepted
first_passed accepted d e = refl
first_passed (rejected n) d e = absurd (never n e)

pub next_passed : (c d : Verdict) → (c then d) ≡ accepted → d ≡ accepted
next_passed accepted d e = e
next_passed (rejected n) d e = absurd (never n e)
