-- What a job holds between two lines, each thing in as many places as there are. Definitions only.
use Rattle.std.specs.Prelude.{ℕ, ◌%◌, List, Option, None, Some, get_or, set}

-- what is held as i at one of n places; none where nothing is
abbrev pub held_in : {A : Type 0} → List (Option A) → ℕ → ℕ → Option A
held_in places n i = get_or places (i % n) None

-- the places with x held as i
abbrev pub keep_held : {A : Type 0} → List (Option A) → ℕ → ℕ → A → List (Option A)
keep_held places n i x = set places (i % n) (Some x)
