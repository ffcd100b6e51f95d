-- The paths that a job holds. Definitions only.
use Rattle.std.specs.Prelude.{ℕ, List, Option}
use Rattle.path.specs.declared.records.Path.{Path}
use Rattle.jobs.specs.Held.{held_in, keep_held}

abbrev pub path_count : ℕ
path_count = 1024

-- the path that is held as i; none where none was started
abbrev pub path_in : List (Option Path) → ℕ → Option Path
path_in paths i = held_in paths path_count i

-- the store with path i being p
abbrev pub keep_path : List (Option Path) → ℕ → Path → List (Option Path)
keep_path paths i p = keep_held paths path_count i p
