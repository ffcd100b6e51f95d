-- The calls on a list of candidates in the caller's memory. Definitions only.
use Rattle.std.specs.Prelude.{ℕ, ◌≡◌}
use Rattle.candidates.specs.Memory.{Memory, Call, answer, left}
use Rattle.rulvimba.specs.Results.{check_number}

-- the contract of rulvimba_arrive_in and rulvimba_depart_in, which find `before` in memory, return n and leave `after`
abbrev pub ListCall : Memory → Call → ℕ → Memory → Type 0
ListCall before call n after = (n ≡ check_number (answer before call)) × (after ≡ left before call)
