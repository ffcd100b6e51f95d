-- What is made of the surface that a line has, and held. Definitions only.
use Rattle.std.specs.Prelude.{◌≡◌, ℕ, Option, Result, Ok, MatchResult, List}
use Rattle.numbers.specs.Refusal.{Answer, refused, given, number, answer}
use Rattle.numbers.specs.declared.refusal.Refusal.{Refusal}
use Rattle.book.specs.declared.record.Record.{Record}
use Rattle.book.specs.Surfaces.{Offered}
use Rattle.book.specs.Record.{offered, make_offered, answer_offered}
use Rattle.text.specs.declared.faults.Fault.{Fault}
use Rattle.text.specs.declared.faults.Indices.{Indices}
use Rattle.text.specs.Line.{Left, and_then, index, past_word}
use Rattle.jobs.specs.Held.{keep_held}
use Rattle.jobs.specs.Surface.{Described, surface}

abbrev pub offered_by : Described → Answer Offered
offered_by d = make_offered d.kind d.two_sided d.given d.eta d.k d.outer

-- what n places have after a surface was to be held as i: one that offers what was given; what they had before, where that is refused
abbrev pub HeldAs : ℕ → ℕ → Answer Offered → Result Unit Refusal → List (Option Record) → List (Option Record) → Type 0
HeldAs n i made result before after =
    MatchResult result (λ done. (r : Record) × ((made ≡ given (offered r)) × (after ≡ keep_held before n i r))) (λ why. (after ≡ before) × (made ≡ refused (number why)))

-- the index that a line names, and what the surface that it has offers, or why it is refused
pub record Read : Type 0 where
  pub index : ℕ
  pub made : Answer Offered

unfoldable pub read : Indices → Left → Result Read Fault
read of l = and_then (index of l) (λ i. and_then (surface (past_word l)) (λ d. Ok (record { index = i; made = offered_by d })))

-- what the code answers
abbrev pub read_by : Result (ℕ × Result Record Refusal) Fault → Result Read Fault
read_by r = and_then r (λ p. Ok (record { index = p.0; made = answer_offered (answer p.1) }))
