-- Refusals by number, document 01's ("At the counter") and 02's from 11 on; checks one after the other, and answers that may be a refusal. Definitions only.
use Rattle.std.specs.Prelude.{ℕ, Bool, cond, Result, Ok, Err}
pub use Rattle.numbers.specs.declared.refusal.{Refusal.Refusal}
use Rattle.numbers.specs.declared.refusal.Refusal.TheVariants.{Roughness, Eta, K, Wavelength, Direction, RandomNumber, CirclePair, Filter, NotFinite, Power, Full, Id, Outer, Book}

-- the number of each ground of refusal
unfoldable pub number : Refusal → ℕ
number Roughness = 1
number Eta = 2
number K = 3
number Wavelength = 4
number Direction = 5
number RandomNumber = 6
number CirclePair = 7
number Filter = 8
number NotFinite = 9
number Power = 10
number Full = 11
number Id = 12
number Outer = 13
number Book = 14

-- ---- a check: passed, or failed with its number
pub data Verdict : Type 0 where
  accepted : Verdict
  rejected : ℕ → Verdict

-- what the code answers, by the number alone
abbrev pub verdict : Result Unit Refusal → Verdict
verdict (Ok passed) = accepted
verdict (Err why) = rejected (number why)

-- n, unless the test holds
abbrev pub refuse : ℕ → Bool → Verdict
refuse n holds = cond holds accepted (rejected n)

-- a check, then the next: the first that fails decides
infixl 25 ◌then◌
abbrev pub ◌then◌ : Verdict → Verdict → Verdict
accepted then next = next
rejected n then next = rejected n

-- what a call leaves: what was there before if it is refused, and else what it gives
unfoldable pub unless_refused : {A : Type 0} → Verdict → A → A → A
unless_refused accepted before after = after
unless_refused (rejected n) before after = before

-- ---- what a call answers: the number of a refusal and nothing besides, or a value
pub data Answer (A : Type 0) : Type 0 where
  refused : ℕ → Answer A
  given : A → Answer A

-- what the code answers, by the number alone
abbrev pub answer : {A : Type 0} → Result A Refusal → Answer A
answer (Ok x) = given x
answer (Err why) = refused (number why)

-- the checks, then the answer
infixr 20 ◌▷◌
abbrev pub ◌▷◌ : {A : Type 0} → Verdict → Answer A → Answer A
accepted ▷ a = a
rejected n ▷ a = refused n
