-- Numbers that are read one after the other: what holds after so many of them, after one more, and at the end; each by one step of the definitions.
use Rattle.std.proofs.Common.{◌≡◌, ℕ, suc, ◌+◌, ◌-◌, ◌<◌, ◌≤◌, Bool, true, false, Result, Ok, Err, List, [], ◌∷◌, ◌++◌, append_assoc, length, get_or, take, drop, set, min, arith, sym, ap, ◌∙◌, Float}
use Rattle.std.proofs.lemmas.List.{drop_more, take_more, length-drop, length-take-le, set_at}
use Rattle.std.proofs.Math.Nat.{sub-zero}
use Rattle.text.specs.declared.faults.Fault.{Fault}
use Rattle.text.specs.Line.{Left, number, past_number, read_until, checked_until, left_until, first_of, spectrum_ends, and_then, read_entries, entries, past_entries, with_entries}

-- i of at most n numbers were read, and there `at` is left of l
pub record Read (ends : Left → Bool) (n : ℕ) (l : Left) (i : ℕ) (at : Left) : Type 0 where
  pub within : i ≤ length (read_until ends n l)
  pub rest : drop i (read_until ends n l) ≡ read_until ends (n - i) at
  pub checked : checked_until ends n l ≡ checked_until ends (n - i) at
  pub left : left_until ends n l ≡ left_until ends (n - i) at

-- i are read in all, and what they leave and whether they were numbers is known
pub record All (ends : Left → Bool) (n : ℕ) (l : Left) (i : ℕ) (at : Left) (answer : Result (Unit {0}) Fault) : Type 0 where
  pub count : length (read_until ends n l) ≡ i
  pub checked : checked_until ends n l ≡ answer
  pub left : left_until ends n l ≡ at

pub none_yet : (ends : Left → Bool) (n : ℕ) (l : Left) → Read ends n l 0 l
none_yet ends n l = record { within = omega arith; rest = rw (sub-zero n); checked = rw (sub-zero n); left = rw (sub-zero n) }

less_one : (n i : ℕ) → i < n → n - i ≡ suc (n - (i + 1))
less_one n i within = omega arith

cut : (xs : List Float) (i : ℕ) (x : Float) (rest : List Float) → i ≤ length xs → drop i xs ≡ x ∷ rest
    → (i < length xs) × (take (i + 1) xs ≡ take i xs ++ x ∷ []) × (drop (i + 1) xs ≡ rest)
cut xs i x rest within is =
    let more : i < length xs = omega (arith, length-drop i xs, ap length is) in
    let d = drop_more xs i x more in
    let same : get_or xs i x ≡ x = cc in
    let left : drop (i + 1) xs ≡ rest = cc in
    (more, take_more xs i x more ∙ rw same, left)

-- one number more
pub record Step (ends : Left → Bool) (n : ℕ) (l : Left) (i : ℕ) (at : Left) (x : Float) : Type 0 where
  pub then : Read ends n l (i + 1) (past_number at)
  pub taken : take (i + 1) (read_until ends n l) ≡ take i (read_until ends n l) ++ x ∷ []

pub one_more : (ends : Left → Bool) (n : ℕ) (l : Left) (i : ℕ) (at : Left) (x : Float) → Read ends n l i at → i < n → ends at ≡ false → Ok x ≡ number at → Step ends n l i at x
one_more ends n l i at x so_far within goes is =
    let rest : drop i (read_until ends n l) ≡ x ∷ read_until ends (n - (i + 1)) (past_number at) = so_far.rest ∙ rw (less_one n i within, goes, ← is) in
    let checked : checked_until ends n l ≡ checked_until ends (n - (i + 1)) (past_number at) = so_far.checked ∙ rw (less_one n i within, goes, ← is) in
    let left : left_until ends n l ≡ left_until ends (n - (i + 1)) (past_number at) = so_far.left ∙ rw (less_one n i within, goes, ← is) in
    let c = cut (read_until ends n l) i x _ so_far.within rest in
    record { then = record { within = omega (arith, c.0); rest = c.2; checked = checked; left = left }; taken = c.1 }

no_more : (xs : List Float) (i : ℕ) → i ≤ length xs → drop i xs ≡ [] → length xs ≡ i
no_more xs i within is = omega (arith, length-drop i xs, ap length is)

-- the numbers end here
pub ended : (ends : Left → Bool) (n : ℕ) (l : Left) (i : ℕ) (at : Left) → Read ends n l i at → i < n → ends at ≡ true → All ends n l i at (Ok tt)
ended ends n l i at so_far within stops = record {
  count = no_more (read_until ends n l) i so_far.within (so_far.rest ∙ rw (less_one n i within, stops));
  checked = so_far.checked ∙ rw (less_one n i within, stops);
  left = so_far.left ∙ rw (less_one n i within, stops);
}

-- as many were read as were to be
pub full : (ends : Left → Bool) (n : ℕ) (l : Left) (i : ℕ) (at : Left) → Read ends n l i at → n ≤ i → All ends n l i at (Ok tt)
full ends n l i at so_far all =
    let none : n - i ≡ 0 = omega arith in
    record {
      count = no_more (read_until ends n l) i so_far.within (so_far.rest ∙ rw none);
      checked = so_far.checked ∙ rw none;
      left = so_far.left ∙ rw none;
    }

-- what is next is no number
pub faulty : (ends : Left → Bool) (n : ℕ) (l : Left) (i : ℕ) (at : Left) (f : Fault) → Read ends n l i at → i < n → ends at ≡ false → Err f ≡ number at → All ends n l i (past_number at) (Err f)
faulty ends n l i at f so_far within goes is = record {
  count = no_more (read_until ends n l) i so_far.within (so_far.rest ∙ rw (less_one n i within, goes, ← is));
  checked = so_far.checked ∙ rw (less_one n i within, goes, ← is);
  left = so_far.left ∙ rw (less_one n i within, goes, ← is);
}

-- ---- the places that numbers are kept in
pub keep : (xs values : List Float) (i : ℕ) (x : Float) → i ≤ length xs → i < length values → take (i + 1) xs ≡ take i xs ++ x ∷ [] → set (first_of i xs values) i x ≡ first_of (i + 1) xs values
keep xs values i x within room taken =
    rw (taken, drop_more values i x room, set_at (take i xs) (get_or values i x) (drop (i + 1) values) x i (length-take-le i xs within))
    (sym (append_assoc (take i xs) (x ∷ []) (drop (i + 1) values)))

-- one more, if there is a place for it
pub keep_one : (xs values kept : List Float) (i count : ℕ) (x : Float) → i ≤ length xs → count ≡ min i (length values) → count < length values → take (i + 1) xs ≡ take i xs ++ x ∷ []
    → kept ≡ first_of count xs values → set kept count x ≡ first_of (count + 1) xs values
keep_one xs values kept i count x within counted room taken is =
    let same : count ≡ i = omega arith in
    rw (is, same) (keep xs values i x within (omega arith) taken)

-- ---- a spectrum's entries, of which as many are kept as there are places for
pub record Entries (values : List Float) (l : Left) (kept : List Float) (at : Left) (answer : Result ℕ Fault) : Type 0 where
  pub value : answer ≡ entries (length values) l
  pub rest : at ≡ past_entries l
  pub places : kept ≡ with_entries values l

pub as_entries : (values kept : List Float) (l at : Left) (i count : ℕ) (answer : Result (Unit {0}) Fault) → All spectrum_ends (length l.rest) l i at answer
    → count ≡ min i (length values) → kept ≡ first_of count (read_until spectrum_ends (length l.rest) l) values → Entries values l kept at (and_then answer (λ x. Ok count))
unfolding entries past_entries with_entries read_entries
as_entries values kept l at i count answer all counted is =
    let n : min (length (read_until spectrum_ends (length l.rest) l)) (length values) ≡ count = omega (arith, all.count) in
    record { value = rw (all.checked, n); rest = sym all.left; places = is ∙ rw n }
