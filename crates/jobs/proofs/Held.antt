-- Laws of what a job holds: what is kept is what is handed out, the others stay, and there is room for as many as before.
use Prim.Native.Nat.{ℕ, ◌%◌, ◌<◌}
use mathlib.Core.Path.{◌≡◌, sym}
use mathlib.Core.Logic.{◌≢◌}
use mathlib.Core.List.{List}
use native.Mathlib.Omega.{arith}
use lib.ListN.{length, length-set}
use lib.Seq.{get_or-set_same, get_or-set_other}
use Rattle.std.specs.Prelude.{Option, None, Some}
use Rattle.jobs.specs.Held.{held_in, keep_held}

module _ {A : Type 0} (places : List (Option A)) (n i : ℕ) (x : A) where
  pub held_kept : 0 < n → length places ≡ n → held_in (keep_held places n i x) n i ≡ Some x
  held_kept some whole = get_or-set_same places (i % n) (Some x) None (omega arith)

  pub held_stays : (j : ℕ) → i % n ≢ j % n → held_in (keep_held places n i x) n j ≡ held_in places n j
  held_stays j apart = get_or-set_other places (i % n) (j % n) (Some x) None (λ e. apart (sym e))

  pub held_as_many : length (keep_held places n i x) ≡ length places
  held_as_many = length-set places (i % n) (Some x)
