-- What an accepted arrival passed, ids being those of the present (`passed`): by the laws of a chain of checks.
use Prim.Native.Nat.{ℕ, ◌<◌}
use mathlib.Core.Path.{◌≡◌}
use mathlib.Core.Bool.{not}
use mathlib.Core.List.{List}
use lib.Dec.{T, ltb, T_not, ltb→lt}
use lib.ListN.{length}
use Rattle.numbers.specs.Refusal.{accepted, refuse, ◌then◌}
use Rattle.numbers.proofs.refusal.Checks.{test_passed, first_passed, next_passed}
use Rattle.candidates.specs.Candidate.{Candidate, check_candidate}
use Rattle.candidates.specs.Memory.{arrival, is_among, check}

pub record Passed (ids : List ℕ) (c : Candidate) : Type 0 where
  pub alone : check_candidate c ≡ accepted
  pub room : length ids < 64
  pub none : T (is_among c.id ids) → ⊥

pub passed : (ids : List ℕ) (c : Candidate) → check ids (arrival c) ≡ accepted → Passed ids c
unfolding check
passed ids c ok =
    let room = refuse 11 (ltb (length ids) 64) in
    let id = refuse 12 (not (is_among c.id ids)) in
    let two = first_passed (check_candidate c then room) id ok in
    record {
      alone = first_passed (check_candidate c) room two;
      room = ltb→lt (length ids) 64 (test_passed 11 (ltb (length ids) 64) (next_passed (check_candidate c) room two));
      none =
          T_not (is_among c.id ids)
          (test_passed 12 (not (is_among c.id ids)) (next_passed (check_candidate c then room) id ok));
    }
