-- Laws of the paths that a job holds: what is kept is what is handed out, the others stay, and there is room for as many as before.
use Prim.Native.Nat.{ℕ, ◌%◌}
use mathlib.Core.Path.{◌≡◌}
use mathlib.Core.Logic.{◌≢◌}
use mathlib.Core.List.{List}
use native.Mathlib.Omega.{arith}
use lib.ListN.{length}
use Rattle.std.specs.Prelude.{Option, Some}
use Rattle.path.specs.declared.records.Path.{Path}
use Rattle.jobs.proofs.Held.{held_kept, held_stays, held_as_many}
use Rattle.rays.specs.Store.{path_count, path_in, keep_path}

pub path_kept : (paths : List (Option Path)) (i : ℕ) (p : Path) → length paths ≡ path_count → path_in (keep_path paths i p) i ≡ Some p
path_kept paths i p whole = held_kept paths path_count i p (omega arith) whole

pub path_stays : (paths : List (Option Path)) (i j : ℕ) (p : Path) → i % path_count ≢ j % path_count → path_in (keep_path paths i p) j ≡ path_in paths j
path_stays paths i j p apart = held_stays paths path_count i p j apart

pub as_many : (paths : List (Option Path)) (i : ℕ) (p : Path) → length (keep_path paths i p) ≡ length paths
as_many paths i p = held_as_many paths path_count i p
