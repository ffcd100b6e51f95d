-- What the test of a part tells (`is_part_of`). By its conjuncts.
use Rattle.std.proofs.Common.{◌≡◌, ◌==◌, ℕ, ◌+◌, ◌*◌, ◌<◌, ◌≤◌, Bool, true, false, cond, List, length, arith}
use Rattle.std.proofs.lemmas.Bool.{and_parts, eqb-true}
use Rattle.optics.specs.Surface.{is_kind_code}
use Rattle.book.specs.Layout.{kind_byte, step_byte, flag_byte, is_step, is_flag, samples_of, part_length, is_part}

pub record IsPart (p : List ℕ) : Type 0 where
  pub kind : is_kind_code (kind_byte p) ≡ true
  pub step : is_step (step_byte p) ≡ true
  pub flag : is_flag (flag_byte p) ≡ true
  pub long : length p ≡ part_length (samples_of (step_byte p))

pub is_part_of : (p : List ℕ) → is_part p ≡ true → IsPart p
unfolding is_part
is_part_of p h =
    let three = and_parts _ (length p == part_length (samples_of (step_byte p))) h in
    let two = and_parts _ (is_flag (flag_byte p)) three.0 in
    let one = and_parts (is_kind_code (kind_byte p)) (is_step (step_byte p)) two.0 in
    record { kind = one.0; step = one.1; flag = two.1; long = eqb-true (length p) _ three.1 }

-- it has entries of the coarser spacing at least
pub part_least : (p : List ℕ) → is_part p ≡ true → 1531 ≤ length p
unfolding part_length samples_of
part_least p h = omega (arith, (is_part_of p h).long, fewest (step_byte p == 1))
  where
    fewest : (b : Bool) → 95 ≤ cond b 471 95
    fewest true = omega arith
    fewest false = omega arith

-- it has more than its first three bytes; the first part says nothing, and shows where this tells something
pub part_over_ten : (p : List ℕ) → is_part p ≡ true → (is_part p ≡ true) × (10 < length p)
unfolding part_length
part_over_ten p h = (h, omega (arith, (is_part_of p h).long))

-- behind eleven bytes the entries of two spectra
pub long_part : (p : List ℕ) → is_part p ≡ true → length p ≡ 11 + 16 * samples_of (step_byte p)
unfolding part_length
long_part p h = (is_part_of p h).long
