-- How the lines of a job were answered, and the texts of those answers that know nothing of the model. Definitions only.
use Rattle.std.specs.Prelude.{ℕ, ◌+◌, ◌-◌, ◌^◌, min, List, [], ◌∷◌, ◌++◌, codes, decimal}
use Rattle.text.specs.declared.answers.Outcome.{Outcome}
use Rattle.text.specs.declared.answers.Outcome.TheVariants.{Nothing, Answer, Refusal, Error}
use Rattle.text.specs.declared.answers.Tally.{Tally}
use Rattle.text.specs.declared.faults.Fault.{Fault}
use Rattle.text.specs.Faults.{fault_text}

-- one more, up to the greatest number of 64 bits
abbrev pub one_more : ℕ → ℕ
one_more n = min (n + 1) (2 ^ 64 - 1)

-- a tally with one line more, by how it was answered
abbrev pub counted : Tally → Outcome → Tally
counted t Nothing = t
counted t Answer = record t { answers = one_more t.answers }
counted t Refusal = record t { refusals = one_more t.refusals }
counted t Error = record t { errors = one_more t.errors }

-- a line's end
abbrev pub end_text : List ℕ
end_text = 10 ∷ []

-- a fault, behind the line's number
abbrev pub fault_line : Fault → List ℕ
fault_line f = (codes " " ++ fault_text f) ++ end_text

-- that the line of that number has more bytes than there may be
abbrev pub long_line : ℕ → ℕ → List ℕ
long_line number most = decimal number ++ (codes " error line: a line is at most " ++ (decimal most ++ (codes " bytes" ++ end_text)))

-- that a command was done
abbrev pub done_text : List ℕ
done_text = codes " ok" ++ end_text

-- how many lines were answered in which way
abbrev pub tally_text : Tally → List ℕ
tally_text t = codes "end " ++ (decimal t.answers ++ (codes " answers " ++ (decimal t.refusals ++ (codes " refusals " ++ (decimal t.errors ++ codes " errors")))))
