-- A candidate direction: what it is refused for by itself, and which of two goes before the other (document 02, ii). Definitions only.
use Rattle.std.specs.Prelude.{ℕ, T, eqb, Float}
use mathlib.Core.{Bool.Bool, Bool.◌&&◌}
use Rattle.std.specs.Float.{binary64}
use Rattle.std.specs.Float.Ieee.{fits, lt, le}
use Rattle.floats.specs.Float.{f0, is_finite}
use Rattle.numbers.specs.Refusal.{Verdict, refuse}
pub use Rattle.candidates.specs.declared.candidate.Candidate.{Candidate}

-- finite, and not below 0; -0.0 is not below 0
unfoldable pub is_density : Float → Bool
is_density x = is_finite x && le f0 x

unfoldable pub check_candidate : Candidate → Verdict
check_candidate c = refuse 9 (is_density c.density)

-- a goes before b, whichever arrived first: its density is greater by value, so that 0.0 and -0.0 are equal
abbrev pub goes_before : Candidate → Candidate → Bool
goes_before a b = lt b.density a.density

abbrev pub is_id : ℕ → ℕ → Bool
is_id id x = eqb x id

abbrev pub has_id : ℕ → Candidate → Bool
has_id id c = is_id id c.id

-- its numbers are values of binary64: every f64 is
unfoldable pub CandidateF64 : Candidate → Type 0
CandidateF64 c = T (fits binary64 c.density)
