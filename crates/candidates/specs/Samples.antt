-- Samples of the rules, which fix them by values: in Current.antt `check` stands on both sides of an equation. Definitions only; they are proved in proofs/Samples.antt.
use Rattle.std.specs.Prelude.{ℕ, replicate, Float}
use mathlib.Core.{Path.◌≡◌, Bool.false, List.List, List.[], List.◌∷◌}
use Rattle.std.specs.Float.{inf, nan}
use Rattle.std.specs.Float.Ieee.{neg}
use Rattle.floats.specs.Float.{f0, f1, f2}
use Rattle.numbers.specs.Refusal.{accepted, rejected}
use Rattle.candidates.specs.Candidate.{Candidate}
use Rattle.candidates.specs.Memory.{places, Memory, memory, listed_ids, Call, arrival, departure, check, left}

abbrev pub candidate : ℕ → Float → Candidate
candidate id density = record { id = id; density = density }

-- what memory holds after a list of calls
unfoldable pub left_by : Memory → List Call → Memory
left_by m [] = m
left_by m (call ∷ calls) = left_by (left m call) calls

abbrev pub empty_list : Memory
empty_list = memory 0 (replicate places 0) (replicate places f0)

-- the ids of 63 and of 64 that are present: the checks go by whether an id is among them, so one id does for all
abbrev pub room_for_one : List ℕ
room_for_one = replicate 63 5

abbrev pub full : List ℕ
full = replicate 64 5

pub record Samples : Type 0 where
  -- the number of an arrival, also where two or three grounds meet
  pub full_and_listed : check full (arrival (candidate 5 f1)) ≡ rejected 11
  pub full_and_below_zero : check full (arrival (candidate 5 (neg f1))) ≡ rejected 9
  pub listed_and_not_finite : check room_for_one (arrival (candidate 5 nan)) ≡ rejected 9
  pub infinite : check [] (arrival (candidate 5 (inf false))) ≡ rejected 9
  pub listed : check room_for_one (arrival (candidate 5 f1)) ≡ rejected 12
  pub room_for_one_lem : check room_for_one (arrival (candidate 6 f1)) ≡ accepted
  -- -0.0 is not below 0
  pub minus_zero : check [] (arrival (candidate 5 (neg f0))) ≡ accepted
  -- a departure
  pub departs_when_full : check full (departure 5) ≡ accepted
  pub not_listed : check full (departure 6) ≡ rejected 12
  -- one that comes again stands behind its equal
  pub comes_again : listed_ids (left_by empty_list (arrival (candidate 7 f1) ∷ arrival (candidate 3 f1) ∷ arrival (candidate 9 f2) ∷ departure 7 ∷ arrival (candidate 7 f1) ∷ [])) ≡ 9 ∷ 3 ∷ 7 ∷ []
  -- zeros of either sign are equal
  pub zeros : listed_ids (left_by empty_list (arrival (candidate 1 (neg f0)) ∷ arrival (candidate 2 f0) ∷ arrival (candidate 3 (neg f0)) ∷ arrival (candidate 4 f1) ∷ [])) ≡ 4 ∷ 1 ∷ 2 ∷ 3 ∷ []
