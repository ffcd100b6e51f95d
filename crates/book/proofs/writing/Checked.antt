-- Checks one after the other, of what is left: one that passed leaves it to the others (`one_passed`), one that failed decides
-- (`one_failed`). Where all passed, so did each (`passed_at`).
use Rattle.std.proofs.Common.{◌≡◌, ℕ, ◌+◌, ◌<◌, ◌≤◌, List, map, length, get_or, drop, sym}
use Rattle.std.proofs.lemmas.List.{at_drop_more, at_drop_all, get_or-map, length-map}
use Rattle.numbers.specs.Refusal.{Verdict, accepted, rejected, ◌then◌}
use Rattle.book.specs.Surfaces.{check_all, check_written}
use Rattle.book.specs.Record.{Record, offered}
use Rattle.book.proofs.Repetition.{All-check_all}

module _ {X A : Type 0} (f : X → A) (check : A → Verdict) (xs : List X) where
  one_more : (i : ℕ) (d : X) → i < length xs
      → check_all check (map f (drop i xs)) ≡ (check (f (get_or xs i d)) then check_all check (map f (drop (i + 1) xs)))
  unfolding check_all
  one_more i d within = at_drop_more (λ (l : List X). check_all check (map f l)) xs i d within

  pub one_passed : (i : ℕ) (d : X) → i < length xs → accepted ≡ check (f (get_or xs i d))
      → check_all check (map f (drop (i + 1) xs)) ≡ check_all check (map f (drop i xs))
  one_passed i d within ok = rw (one_more i d within, ← ok)

  pub one_failed : (i n : ℕ) (d : X) → i < length xs → rejected n ≡ check (f (get_or xs i d))
      → rejected n ≡ check_all check (map f (drop i xs))
  one_failed i n d within failed = rw (one_more i d within, ← failed)

  pub none_left : (i : ℕ) → length xs ≤ i → accepted ≡ check_all check (map f (drop i xs))
  unfolding check_all
  none_left i h = sym (at_drop_all (λ (l : List X). check_all check (map f l)) xs i h)

-- where all passed, so did each
pub passed_at : (rs : List Record) (i : ℕ) (d : Record) → check_all check_written (map offered rs) ≡ accepted → i < length rs
    → check_written (offered (get_or rs i d)) ≡ accepted
passed_at rs i d ok within =
    rw (← get_or-map offered rs i d (offered d) within) (All-check_all check_written (map offered rs) ok i (offered d) (rw length-map within))
